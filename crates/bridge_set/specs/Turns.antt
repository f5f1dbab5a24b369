-- The turns that bridges have taken.
use Rattle.std.specs.Prelude.{ℕ, List, sum_by}
use Rattle.bridge_face.specs.BridgeState.{BridgeState}

abbrev pub turns_of : List BridgeState → ℕ
turns_of states = sum_by (λ s. s.turns) states
