-- How a list of the user's items is planned: whole, or up to the first that doesn't fit.
use Rattle.std.specs.Prelude.{◌≡◌, Option, Some, None, Result, Ok, Err}
use Rattle.std.specs.Option.{option_map}
use Rattle.ratio_core.specs.declared.fault.NumberFault.{NumberFault}
use Rattle.ratio_core.specs.declared.fault.NumberFault.TheVariants as fault
use Rattle.aff_core.specs.Address.{Address}
use Rattle.item_core.specs.declared.item.Item.{Item}
use Rattle.item_core.specs.declared.kind.Kind.{Kind}
use Rattle.model_bridging.specs.declared.fault.PushFault.{PushFault}
use Rattle.model_bridging.specs.declared.fault.PushFault.TheVariants.{Unsupported, Overflow, Memory}

-- the first item that doesn't fit, if any, stands at the address
abbrev pub IsFirstAt : Option Item → Address → Type 0
IsFirstAt unfit at = option_map (λ item. item.at) unfit ≡ Some at

-- a value with Q where all fit, else the address of the first that doesn't; or running out of memory
abbrev pub PlanOutcome : {T : Type 0} → Result T PushFault → Option Item → (T → Type 0) → Type 0
PlanOutcome (Ok x) unfit Q = (unfit ≡ None) × Q x
PlanOutcome (Err (Unsupported kind)) unfit Q = ⊥
PlanOutcome (Err (Overflow at)) unfit Q = IsFirstAt unfit at
PlanOutcome (Err Memory) unfit Q = Unit {0}

-- why the item at an address isn't planned
abbrev pub refused_at : NumberFault → Address → PushFault
refused_at fault.Overflow at = Overflow at
refused_at fault.Memory at = Memory

-- no item lacks a tree, or the first that does is of this kind; or running out of memory
abbrev pub KindsOutcome : {T : Type 0} → Result T PushFault → Option Kind → Type 0
KindsOutcome (Ok x) missing = missing ≡ None
KindsOutcome (Err (Unsupported kind)) missing = missing ≡ Some kind
KindsOutcome (Err (Overflow at)) missing = ⊥
KindsOutcome (Err Memory) missing = Unit {0}
