use Rattle.sparse_board.proofs.LoweringSteps.{IsCopiedTo}
use Rattle.sparse_board.proofs.lowering.copy_below.Given as goal

abbrev pub invariant-loop-end : goal.invariant-loop-end
invariant-loop-end l = IsCopiedTo l.row l.i l.column l.fn.next l.next l.end
