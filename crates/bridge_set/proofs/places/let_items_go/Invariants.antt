use Rattle.std.proofs.Common.{take}
use Rattle.bridge_set.specs.Letting.{IsReleased}
use Rattle.bridge_set.proofs.places.let_items_go.Given as goal

abbrev pub invariant-loop-at : goal.invariant-loop-at
invariant-loop-at g l =
    IsReleased (take l.at-index l.items) (g.B.Bridge.state l.initial.bridge)
    (g.B.Bridge.state l.bridge)
