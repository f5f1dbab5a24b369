use Rattle.std.proofs.Common.{map}
use Rattle.bridge_face.specs.BridgeState.{all_gone}
use Rattle.map_laws.specs.LoopLaws.{IsPast}
use Rattle.bridge_set.proofs.places.clear_all.Given as goal

abbrev pub invariant-loop-bridge : goal.invariant-loop-bridge
invariant-loop-bridge g l =
    IsPast all_gone (map g.B.Bridge.state l.initial.bridges) (map g.B.Bridge.state l.bridges)
    l.bridge-index
