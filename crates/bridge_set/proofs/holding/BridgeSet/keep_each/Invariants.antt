use Rattle.std.proofs.Common.{◌≡◌, length}
use Rattle.std.specs.Vec.Iter.{into_iter_items, into_iter_len}
use Rattle.bridge_set.proofs.AddingSteps.{AddedSoFar}
use Rattle.bridge_set.proofs.holding.BridgeSet.keep_each.Given as goal

abbrev pub invariant-loop-node : goal.invariant-loop-node
invariant-loop-node g l =
    AddedSoFar l.fn.self l.self l.fn.nodes.items (into_iter_items l.node-iterator)
    × (into_iter_len l.node-iterator ≡ length (into_iter_items l.node-iterator))
    × (goal.iterator-loop-node g).can_next l.node-iterator
    × (goal.iterator-loop-node g).is_finite l.node-iterator
