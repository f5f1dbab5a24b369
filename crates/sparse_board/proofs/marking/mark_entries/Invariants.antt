use Rattle.sparse_board.specs.Numbers.{row_columns}
use Rattle.sparse_board.proofs.MarkingSteps.{IsMarkedTo}
use Rattle.sparse_board.proofs.marking.mark_entries.Given as goal

abbrev pub invariant-loop-k : goal.invariant-loop-k
invariant-loop-k l = IsMarkedTo (row_columns l.row) l.i l.fn.marks l.marks l.k
