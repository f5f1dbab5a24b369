use Rattle.std.proofs.Common.{map}
use Rattle.bridge_set.proofs.Released.{AreReleasedTo}
use Rattle.bridge_set.proofs.places.let_found_go_by.Given as goal

abbrev pub invariant-loop-bridge : goal.invariant-loop-bridge
invariant-loop-bridge g l =
    AreReleasedTo l.found (map g.B.Bridge.state l.initial.bridges) (map g.B.Bridge.state l.bridges)
    l.bridge-index
