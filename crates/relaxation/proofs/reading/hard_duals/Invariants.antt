use Rattle.std.specs.Prelude.{◌≡◌, ◌++◌, length}
use Rattle.std.specs.Vec.Iter.{into_iter_items, into_iter_len}
use Rattle.relaxed_model.specs.Relaxed.{at_hard_rows}
use Rattle.relaxation.proofs.reading.hard_duals.Given as goal

abbrev pub invariant-loop-own : goal.invariant-loop-own
invariant-loop-own l =
    (l.kept.items ++ at_hard_rows l.left (into_iter_items l.own-iterator)
    ≡ at_hard_rows l.rows.items l.fn.duals)
    × (into_iter_len l.own-iterator ≡ length (into_iter_items l.own-iterator))
