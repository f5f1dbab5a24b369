use Rattle.sparse_board.proofs.LoweringSteps.{IsDividedTo}
use Rattle.sparse_board.proofs.lowering.divide.Given as goal

abbrev pub invariant-loop-k : goal.invariant-loop-k
invariant-loop-k l = IsDividedTo l.row l.by l.next l.k
