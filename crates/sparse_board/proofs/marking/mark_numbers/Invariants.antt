use Rattle.sparse_board.proofs.WordMarkSteps.{AreWordsOfRowMarked}
use Rattle.sparse_board.proofs.marking.mark_numbers.Given as goal

abbrev pub invariant-loop-k : goal.invariant-loop-k
invariant-loop-k l = AreWordsOfRowMarked l.row l.i l.width l.fn.marks l.marks l.k
