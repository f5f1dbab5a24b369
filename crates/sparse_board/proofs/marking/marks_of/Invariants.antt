use Rattle.sparse_board.proofs.MarkingSteps.{AreMarkedTo}
use Rattle.sparse_board.proofs.marking.marks_of.Given as goal

abbrev pub invariant-loop-i : goal.invariant-loop-i
invariant-loop-i l = AreMarkedTo l.width l.marks l.rows l.i
