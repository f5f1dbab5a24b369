-- The map and the solver's model in which a fresh bridging stands belong together.
use Rattle.std.specs.Prelude.{IsTrue}
use Rattle.std.proofs.Common.{sym, subst}
use Rattle.bridge_set.specs.Bridges.{means_of}
use Rattle.bridge_plan.specs.Means.{AreSound}
use Rattle.equality_form.specs.Native.{IsNativeModel}
use Rattle.lazy_bridge.specs.Native.{supports_native}
use Rattle.lazy_bridge.specs.NativeLaws.{supported}
use Rattle.lazy_bridge.specs.Owned.{IsBridgingOf, Owned, setting_in}
use Rattle.leaf_update.specs.ReadableLaws.{readable}
use Rattle.leaf_model.specs.LeafModel.{LeafModel}
use Rattle.std_form.specs.Readable.{IsReadable}
use Rattle.tree_laws.specs.NativeModel.{native_model}
use Rattle.user_model.specs.Model.{ModelValue}

pub readable_here : (lazy : Owned) (model : ModelValue) → AreSound (means_of lazy.bridges)
    → IsTrue (supports_native lazy.bridges.table) → IsBridgingOf lazy model
    → IsReadable lazy.map lazy.solver.leaves
readable_here lazy model sound native stands =
    readable lazy.map lazy.solver.leaves stands.named lazy.objective_at
    (subst (λ (leaves : LeafModel). IsNativeModel leaves) (sym stands.leaves)
    (native_model (setting_in lazy) sound.costly sound.lawful (supported (setting_in lazy) native)
    model stands.valid stands.bridging))
