-- What stands in a bridging depends on its parts alone, and not on the bridges' turns.
use Rattle.std.specs.Prelude.{◌≡◌, true, List, All}
use Rattle.std.proofs.Common.{ap, sym, subst, ◌∙◌}
use Rattle.std.proofs.lemmas.List.Elements.{All-map}
use Rattle.std.specs.FinMap as finite
use Rattle.address_map.specs.AddressMap.{AddressMap}
use Rattle.aff_core.specs.Address.{Address}
use Rattle.bridge_set.specs.Bridges.{kept_by, means_of}
use Rattle.bridge_set.specs.Nodes.{nodes_by}
use Rattle.bridge_face.specs.BridgeState.{BridgeState, KeptByAddress}
use Rattle.bridge_plan.specs.Means.{Means}
use Rattle.map_laws.specs.EachLaws.{all_from_map}
use Rattle.fresh_bridging.specs.FreshBridging.{FreshBridging, is_made, leaves_of}
use Rattle.fresh_bridging.specs.TheRules.{Setting}
use Rattle.item_core.specs.declared.family.Family.{Family}
use Rattle.leaf_update.specs.Named.{NamesEach}
use Rattle.lazy_bridge.specs.Mentioned.{IsMentionIndex, marks_of}
use Rattle.lazy_bridge.specs.Owned.{HoldsNothing, IsBridgingOf, Owned, setting_in}
use Rattle.lazy_bridge.specs.Pushed.{IsTried}
use Rattle.leaf_model.specs.ReadThrough.{read_through}
use Rattle.model_bridging.specs.Expressions.{expressions_by}
use Rattle.model_bridging.specs.Planned.{kept_variables}
use Rattle.solver_store.specs.SolverModel.{StoredLeaves, no_leaves}
use Rattle.user_model.specs.Model.{ModelValue}
use Rattle.user_model.specs.Valid.{IsValid}

-- ---- the fresh bridging

record Parts : Type 0 where
  setting : Setting
  kept : List (Family × KeptByAddress)
  solver : StoredLeaves
  map : AddressMap
  objective_at : Address

record AreOf (parts : Parts) (model : ModelValue) : Type 0 where
  valid : IsValid model
  bridging : FreshBridging parts.setting model
  made : is_made bridging ≡ true
  leaves : read_through parts.map parts.solver.leaves parts.objective_at ≡ leaves_of bridging
  named : NamesEach parts.map parts.solver.leaves
  kept : All (λ (k : Family × KeptByAddress). k.1 ≡ nodes_by bridging k.0) parts.kept
  exprs : parts.map.exprs ≡ expressions_by bridging
  noted : IsMentionIndex model parts.map.noted
  marks : parts.map.kept ≡ marks_of (kept_variables bridging)

abbrev parts_by : Means → StoredLeaves → AddressMap → Address → Parts
parts_by means solver at_map at = record {
  setting = means.setting;
  kept = means.kept;
  solver = solver;
  map = at_map;
  objective_at = at;
}

abbrev parts_in : Owned → Parts
parts_in lazy = parts_by (means_of lazy.bridges) lazy.solver lazy.map lazy.objective_at

parts_of : (lazy : Owned) (model : ModelValue) → IsBridgingOf lazy model
    → AreOf (parts_in lazy) model
parts_of lazy model h = record {
  valid = h.valid;
  bridging = h.bridging;
  made = h.made;
  leaves = h.leaves;
  named = h.named;
  kept =
      All-map (λ (k : Family × KeptByAddress). k.1 ≡ nodes_by h.bridging k.0)
      (λ (s : BridgeState). (s.family, s.kept)) lazy.bridges.states h.kept;
  exprs = h.exprs;
  noted = h.noted;
  marks = h.marks;
}

from_parts : (lazy : Owned) (model : ModelValue) → AreOf (parts_in lazy) model
    → IsBridgingOf lazy model
from_parts lazy model h = record {
  valid = h.valid;
  bridging = h.bridging;
  made = h.made;
  leaves = h.leaves;
  named = h.named;
  kept =
      all_from_map (λ (k : Family × KeptByAddress). k.1 ≡ nodes_by h.bridging k.0)
      (λ (s : BridgeState). (s.family, s.kept)) lazy.bridges.states h.kept;
  exprs = h.exprs;
  noted = h.noted;
  marks = h.marks;
}

same_parts : (old new : Owned) → IsTried old new → parts_in new ≡ parts_in old
same_parts old new t =
    ap (λ m. parts_by m new.solver new.map new.objective_at) t.means
    ∙ (ap (λ s. parts_by (means_of old.bridges) s new.map new.objective_at) t.solver
    ∙ (ap (λ m. parts_by (means_of old.bridges) old.solver m new.objective_at) t.map
    ∙ ap (parts_by (means_of old.bridges) old.solver old.map) t.objective_at))

pub still_bridging : (old new : Owned) (model : ModelValue) → IsTried old new
    → IsBridgingOf old model → IsBridgingOf new model
still_bridging old new model t h =
    from_parts new model
    (subst (λ p. AreOf p model) (sym (same_parts old new t)) (parts_of old model h))

-- ---- nothing

pub still_nothing : (old new : Owned) → new.solver ≡ old.solver → new.map ≡ old.map
    → kept_by new.bridges.states ≡ kept_by old.bridges.states → HoldsNothing old → HoldsNothing new
still_nothing old new solver at_map kept h =
    let Empty : Family × KeptByAddress → Type 0 = λ (k : Family × KeptByAddress). k.1 ≡ finite.empty in
    let part : BridgeState → Family × KeptByAddress = λ (s : BridgeState). (s.family, s.kept) in record {
      leaves = subst (λ (s : StoredLeaves). s.leaves ≡ no_leaves s.leaves.calls) (sym solver) h.leaves;
      vars = ap (λ (m : AddressMap). m.vars.indices) at_map ∙ h.vars;
      rows = ap (λ (m : AddressMap). m.rows.indices) at_map ∙ h.rows;
      exprs = ap (λ (m : AddressMap). m.exprs) at_map ∙ h.exprs;
      noted = ap (λ (m : AddressMap). m.noted) at_map ∙ h.noted;
      marks = ap (λ (m : AddressMap). m.kept) at_map ∙ h.marks;
      kept =
          all_from_map Empty part new.bridges.states
          (subst (All Empty) (sym kept) (All-map Empty part old.bridges.states h.kept));
    }

pub nothing_tried : (old new : Owned) → IsTried old new → HoldsNothing old → HoldsNothing new
nothing_tried old new t h =
    still_nothing old new t.solver t.map (ap (λ (m : Means). m.kept) t.means) h

pub setting_tried : (old new : Owned) → IsTried old new → setting_in new ≡ setting_in old
setting_tried old new t = ap (λ (m : Means). m.setting) t.means
