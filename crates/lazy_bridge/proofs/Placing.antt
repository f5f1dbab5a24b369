-- The solver's objective stands where the bridges lead to.
use Rattle.std.specs.Prelude.{IsSome, IsTrue, refl}
use Rattle.aff_core.specs.Address.{root_address}
use Rattle.aff_core.specs.declared.root.Root.TheVariants.{Objective}
use Rattle.bridge_set_laws.specs.KeptFirstLaws.{kept_found}
use Rattle.bridge_plan.specs.Means.{AreSound}
use Rattle.bridge_set.specs.Bridges.{means_of}
use Rattle.fresh_bridging.specs.TheRules.{Setting}
use Rattle.lazy_bridge.specs.Native.{supports_native}
use Rattle.lazy_bridge.specs.NativeLaws.{supported}
use Rattle.lazy_bridge.specs.Owned.{IsBridgingOf, Owned, setting_in}
use Rattle.local_laws.specs.Sound.{IsValidUnder}
use Rattle.objective_laws.specs.ObjectivePlace.{BridgesLeadTo}
use Rattle.objective_laws.specs.PlaceLaws.{objective_leads}
use Rattle.tree_laws.specs.LeafLaws.{SupportsNativeKinds}
use Rattle.tree_laws.specs.PrimalLaws.{nodes_here}
use Rattle.user_model.specs.Model.{ModelValue}

pub placed : (lazy : Owned) (model : ModelValue) → AreSound (means_of lazy.bridges)
    → IsTrue (supports_native lazy.bridges.table) → IsBridgingOf lazy model
    → IsSome lazy.solver.leaves.objective
    → BridgesLeadTo lazy.bridges.states (root_address Objective 0) lazy.objective_at
placed lazy model sound native stands some =
    let setting : Setting = setting_in lazy in
    let natives : SupportsNativeKinds setting = supported setting native in
    let under : IsValidUnder setting model = record {
      costly = sound.costly;
      lawful = sound.lawful;
      valid = stands.valid;
    } in
    objective_leads setting sound.costly sound.lawful natives model stands.valid stands.bridging
    lazy.bridges.states
    (kept_found under stands.bridging
    (nodes_here setting sound.costly sound.lawful natives model stands.valid stands.bridging)
    lazy.bridges.states refl stands.kept)
    lazy.map lazy.solver.leaves lazy.objective_at stands.leaves some
