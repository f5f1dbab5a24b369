use Rattle.std.proofs.Common.{◌≡◌, length}
use Rattle.std.specs.Vec.Iter.{into_iter_items, into_iter_len}
use Rattle.lazy_bridge.proofs.Expressions.{PutSoFar}
use Rattle.lazy_bridge.proofs.change.put_expressions.Given as goal

abbrev pub invariant-loop-at : goal.invariant-loop-at
invariant-loop-at l =
    PutSoFar l.fn.map l.map l.fn.exprs.items (into_iter_items l.at-iterator)
    × (into_iter_len l.at-iterator ≡ length (into_iter_items l.at-iterator))
    × goal.iterator-loop-at.can_next l.at-iterator
    × goal.iterator-loop-at.is_finite l.at-iterator
