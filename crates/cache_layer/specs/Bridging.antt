-- What a bridging answers in the user's names, and whether a solver that was attached still is.
use Rattle.std.specs.Prelude.{◌≡◌, ℕ, Bool, true, false, Option, Some, Result, Ok, Err}
use Rattle.aff_core.specs.Address.{Address}
use Rattle.bridge_set.specs.Bridges.{setting_by}
use Rattle.bridged_report.specs.Places.{place_at}
use Rattle.cache_layer.specs.CacheState.{CacheState, OverflowsAt}
use Rattle.cache_layer.specs.declared.fault.BridgeFault.{BridgeFault}
use Rattle.cache_layer.specs.declared.fault.BridgeFault.TheVariants.{Memory, Overflow, Unsupported}
use Rattle.cache_layer.specs.declared.fault.EditFault.{EditFault}
use Rattle.cache_layer.specs.declared.fault.EditFault.TheVariants as edit
use Rattle.fresh_bridging.specs.FreshBridging.{FreshBridging, unfit_at}
use Rattle.fresh_bridging.specs.TheRules.{Setting}
use Rattle.item_core.specs.declared.table.Table.{Table}
use Rattle.lazy_bridge.specs.Owned.{HoldsNothing, Owned, setting_in}
use Rattle.lazy_bridge.specs.Pushed.{IsBridgedBy, IsTried}
use Rattle.model_bridging.specs.declared.fault.PushFault.{PushFault}
use Rattle.model_bridging.specs.declared.fault.PushFault.TheVariants as push
use Rattle.user_model.specs.Model.{ModelValue}

-- a solver is attached, by the families of the bridges
abbrev pub state_by : Owned → Table → ModelValue → CacheState
state_by lazy table model =
    record { model = model; setting = setting_by table lazy.bridges.states; attached = true }

-- as the lazy bridging answers, with the place in place of the address
abbrev pub IsBridgedInNames : Owned → Table → ModelValue → Result ℕ BridgeFault → Owned → Type 0
IsBridgedInNames old table model (Ok n) new = IsBridgedBy old table model (Ok n) new
IsBridgedInNames old table model (Err (Unsupported kind)) new =
    IsBridgedBy old table model (Err (push.Unsupported kind)) new
IsBridgedInNames old table model (Err (Overflow place)) new =
    OverflowsAt (state_by old table model) place × IsTried old new
IsBridgedInNames old table model (Err Memory) new =
    IsBridgedBy old table model (Err push.Memory) new

-- without memory the solver is detached
abbrev pub stays : Result (Option ℕ) EditFault → Bool
stays (Err edit.Memory) = false
stays _ = true

-- ---- one fault in the user's names

-- an overflow is one of a fresh bridging of the model
abbrev pub IsFaultOf : ModelValue → PushFault → Type 0
IsFaultOf model (push.Overflow at) =
    (setting : Setting) × (bridging : FreshBridging setting model) × (unfit_at bridging ≡ Some at)
IsFaultOf model _ = Unit {0}

-- a place that is reported changes nothing, and without memory for it nothing is held
abbrev pub IsPlaceToldAs : ModelValue → Owned → Address → BridgeFault → Owned → Type 0
IsPlaceToldAs model old at (Unsupported kind) new = ⊥
IsPlaceToldAs model old at (Overflow place) new = (place_at model at ≡ Some place) × (new ≡ old)
IsPlaceToldAs model old at Memory new = HoldsNothing new × (setting_in new ≡ setting_in old)

abbrev pub IsToldAs : ModelValue → Owned → PushFault → BridgeFault → Owned → Type 0
IsToldAs model old (push.Unsupported kind) told new = (told ≡ Unsupported kind) × (new ≡ old)
IsToldAs model old (push.Overflow at) told new = IsPlaceToldAs model old at told new
IsToldAs model old push.Memory told new = (told ≡ Memory) × (new ≡ old)
