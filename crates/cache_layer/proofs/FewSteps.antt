-- How few calls are made, by what the bridging answers.
use Rattle.std.specs.Prelude.{◌≡◌, ℕ, Result, Err, IsErrAnd}
use Rattle.std.proofs.Common.{subst, sym}
use Rattle.item_core.specs.declared.table.Table.{Table}
use Rattle.lazy_bridge.specs.Few.{ChangesFew}
use Rattle.lazy_bridge.specs.Owned.{Owned}
use Rattle.lazy_bridge.specs.Pushed.{IsTried}
use Rattle.user_model.specs.Model.{ModelValue}
use Rattle.cache_layer.specs.Bridging.{IsBridgedInNames}
use Rattle.cache_layer.specs.Faults.{attach_fault, bridge_fault}
use Rattle.cache_layer.specs.FewCalls.{AttachesFew, EditsFew}
use Rattle.cache_layer.specs.FewCallsLaws.{few_kept}
use Rattle.cache_layer.specs.declared.fault.AttachFault.{AttachFault}
use Rattle.cache_layer.specs.declared.fault.BridgeFault.{BridgeFault}
use Rattle.cache_layer.specs.declared.fault.BridgeFault.TheVariants as bridge
use Rattle.cache_layer.specs.declared.fault.EditFault.{EditFault}
use Rattle.cache_layer.proofs.Editing.{by_fault}

few_tried : (old new : Owned) → IsTried old new → ChangesFew old 0 new
few_tried old new tried = few_kept old new tried.solver tried.map

pub edit_few : (old new : Owned) (table : Table) (model : ModelValue) (fault : BridgeFault)
    (given : EditFault) → given ≡ bridge_fault fault
    → IsBridgedInNames old table model (Err fault) new → EditsFew (Err given) old new
edit_few old new table model fault given is h =
    subst (λ g. EditsFew (Err g) old new) (sym is) (by fault h)
  where
    by : (fault : BridgeFault) → IsBridgedInNames old table model (Err fault) new
        → EditsFew (Err (bridge_fault fault)) old new
    by (bridge.Unsupported kind) h = few_tried old new h.1
    by (bridge.Overflow place) h = few_tried old new h.1
    by bridge.Memory h = tt

pub attach_few : (old new : Owned) (table : Table) (model : ModelValue) (fault : BridgeFault)
    (r : Result ℕ AttachFault) → IsBridgedInNames old table model (Err fault) new
    → IsErrAnd r (λ e. e ≡ attach_fault fault) → AttachesFew r old new
attach_few old new table model fault r h given =
    by_fault r (attach_fault fault) (λ x. AttachesFew x old new) given (by fault h)
  where
    by : (fault : BridgeFault) → IsBridgedInNames old table model (Err fault) new
        → AttachesFew (Err (attach_fault fault)) old new
    by (bridge.Unsupported kind) h = few_tried old new h.1
    by (bridge.Overflow place) h = few_tried old new h.1
    by bridge.Memory h = tt
