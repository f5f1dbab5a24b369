-- Plans, and what is put in of one.
use Rattle.std.specs.Prelude.{◌≡◌, List, map}
use Rattle.std.specs.FinMap as finite
use Rattle.address_map.specs.AddressMap.{AddressMap}
use Rattle.aff_core.specs.Address.{Address, address_cmp}
use Rattle.aff_core.specs.Function.{Function}
use Rattle.aff_core.specs.Rising.{HasDistinctKeys}
use Rattle.bridge_set.specs.Bridges.{AreKeepable, kept_by, keeping}
use Rattle.fresh_bridging.specs.Leaves.{leaf_model_of}
use Rattle.item_core.specs.declared.family.Family.{Family}
use Rattle.lazy_bridge.specs.Mentioned.{IsMentionIndex, marks_of}
use Rattle.lazy_bridge.specs.Owned.{Owned, leaf_model_in}
use Rattle.leaf_update.specs.Leaves.{AreLeaves}
use Rattle.leaf_update.specs.Named.{NamesEach}
use Rattle.model_bridging.specs.declared.model_plan.ModelPlan.{ModelPlan}
use Rattle.user_model.specs.Model.{ModelValue}

-- a plan that can be put in where there are bridges of these families
pub record IsPuttable (families : List Family) (planned : ModelPlan) : Type 0 where
  pub leaves : AreLeaves planned.plan.leaves.items
  pub nodes : AreKeepable families planned.plan.nodes.items
  pub exprs : HasDistinctKeys address_cmp planned.exprs.items

-- the expressions of a plan in place of those of a map
abbrev pub with_exprs : AddressMap → List (Address × Function) → AddressMap
with_exprs m exprs = record m { exprs = finite.from_entries exprs }

-- the plan of the model stands in it
pub record HoldsPlan (old : Owned) (model : ModelValue) (planned : ModelPlan) (new : Owned)
    : Type 0 where
  pub leaves : leaf_model_in new ≡ leaf_model_of planned.plan.leaves.items
  pub named : NamesEach new.map new.solver.leaves
  pub kept :
      kept_by new.bridges.states ≡ map (keeping planned.plan.nodes.items) old.bridges.states
  pub exprs : new.map.exprs ≡ finite.from_entries planned.exprs.items
  pub noted : IsMentionIndex model new.map.noted
  pub marks : new.map.kept ≡ marks_of planned.kept.items
