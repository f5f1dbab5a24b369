-- What is seen of a bridge of any family.
use Rattle.std.specs.FinMap as finite
use Rattle.bridge_face.specs.BridgeState.{BridgeState}
use Rattle.item_core.specs.declared.family.Family.{Family}

-- of a bridge that was just made
abbrev pub fresh : Family → BridgeState
fresh family = record { family = family; kept = finite.empty; turns = 0 }

-- a bridge's value is its state: what `state` of the trait is for `AnyBridge`
abbrev pub state_of_any : BridgeState → BridgeState
state_of_any state = state
