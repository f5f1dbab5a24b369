use Rattle.sparse_board.proofs.NarrowingSteps.{IsFilledTo}
use Rattle.sparse_board.proofs.narrowing.narrow_to.Given as goal

abbrev pub invariant-loop-k : goal.invariant-loop-k
invariant-loop-k l = IsFilledTo l.wide l.fn.row l.row l.den l.k
