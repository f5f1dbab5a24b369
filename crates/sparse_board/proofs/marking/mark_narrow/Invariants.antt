use Rattle.std.specs.Prelude.{◌+◌}
use Rattle.whole_rows.specs.Rows as whole
use Rattle.sparse_board.proofs.WordMarkSteps.{AreWordsMarkedTo}
use Rattle.sparse_board.proofs.marking.mark_narrow.Given as goal

abbrev pub invariant-loop-k : goal.invariant-loop-k
invariant-loop-k l =
    AreWordsMarkedTo (whole.width_of l.step.row + 1) l.q (whole.number_of l.step.row) l.fn.marks
    l.marks l.k
