use Rattle.std.specs.FinMap as finite
use Rattle.bridge_set.proofs.Releasing.{IsReleasing}
use Rattle.bridge_set.proofs.places.let_item_go.Given as goal

abbrev pub invariant-loop-first : goal.invariant-loop-first
invariant-loop-first g l =
    IsReleasing l.at (g.B.Bridge.state l.initial.bridge) (g.B.Bridge.state l.bridge)

abbrev pub decreases-loop-first : goal.decreases-loop-first
decreases-loop-first g l = finite.len (g.B.Bridge.state l.bridge).kept
