use Rattle.sparse_board.specs.Numbers.{row_columns}
use Rattle.sparse_board.proofs.MarkingSteps.{IsStepMarkedTo}
use Rattle.sparse_board.proofs.marking.mark_wide.Given as goal

abbrev pub invariant-loop-k : goal.invariant-loop-k
invariant-loop-k l = IsStepMarkedTo (row_columns l.step) l.q l.fn.marks l.marks l.k
