-- What a call answers that bridges a model.
--
-- The planning step works the whole fresh bridging out by the bridges' images, an item at a time, and
-- refuses there: `Unsupported` with the kind of the first of the user's items that has no tree, and
-- then `Overflow` with the address of the first at which a number doesn't fit. Until then nothing
-- but the bridges' turns has changed. The change step lets all nodes and expressions go, puts those of
-- the plan in, and changes the leaves in place; memory alone can refuse it, and then it holds
-- nothing.
use Rattle.std.specs.Prelude.{◌≡◌, ◌-◌, ◌^◌, ℕ, min, Some, Result, Ok, Err}
use Rattle.bridge_set.specs.Bridges.{means_of, setting_by}
use Rattle.fresh_bridging.specs.FreshBridging.{FreshBridging, IsUnsupported, unfit_at}
use Rattle.item_core.specs.declared.table.Table.{Table}
use Rattle.leaf_model.specs.LeafModel.{IsChangeCount, LeafModel}
use Rattle.lazy_bridge.specs.Owned.{HoldsNothing, IsBridgingOf, Owned, leaf_model_in, setting_in}
use Rattle.model_bridging.specs.Planned.{IsPlanOf}
use Rattle.model_bridging.specs.declared.fault.PushFault.{PushFault}
use Rattle.model_bridging.specs.declared.fault.PushFault.TheVariants.{Unsupported, Overflow, Memory}
use Rattle.model_bridging.specs.declared.model_plan.ModelPlan.{ModelPlan}
use Rattle.user_model.specs.Model.{ModelValue}

-- all but the bridges' turns is as it was
pub record IsTried (old new : Owned) : Type 0 where
  pub means : means_of new.bridges ≡ means_of old.bridges
  pub solver : new.solver ≡ old.solver
  pub map : new.map ≡ old.map
  pub objective_at : new.objective_at ≡ old.objective_at

-- the number of addresses at which leaf models differ, or the last number of 64 bits
abbrev pub Counts : LeafModel → LeafModel → ℕ → Type 0
Counts before after n = (m : ℕ) × IsChangeCount before after m × (n ≡ min m (2 ^ 64 - 1))

-- the fresh bridging of the model by the table stands in it, and the answer is the number of
-- addresses at which leaves changed; or there is none, or a number of it doesn't fit; or memory is
-- wanting, and it holds nothing by the table that it had
abbrev pub IsBridgedBy : Owned → Table → ModelValue → Result ℕ PushFault → Owned → Type 0
IsBridgedBy old table model (Ok n) new =
    IsBridgingOf new model × (setting_in new ≡ setting_by table old.bridges.states)
    × Counts (leaf_model_in old) (leaf_model_in new) n
IsBridgedBy old table model (Err (Unsupported kind)) new =
    IsUnsupported (setting_by table old.bridges.states) model kind × IsTried old new
IsBridgedBy old table model (Err (Overflow at)) new =
    ((bridging : FreshBridging (setting_by table old.bridges.states) model)
    × (unfit_at bridging ≡ Some at))
    × IsTried old new
IsBridgedBy old table model (Err Memory) new =
    HoldsNothing new × (setting_in new ≡ setting_in old)

-- the planning step alone: the plan of the fresh bridging by the table, or a refusal
abbrev pub IsPlannedBy : Owned → ModelValue → Result ModelPlan PushFault → Owned → Type 0
IsPlannedBy old model (Ok planned) new = IsPlanOf (setting_in old) model planned × IsTried old new
IsPlannedBy old model (Err fault) new = IsBridgedBy old old.bridges.table model (Err fault) new
