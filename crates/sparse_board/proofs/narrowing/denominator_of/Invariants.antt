use Rattle.sparse_board.specs.Mixed.{IsDenominator}
use Rattle.sparse_board.specs.Sparse.{values_in}
use Rattle.sparse_board.proofs.narrowing.denominator_of.Given as goal

abbrev pub invariant-loop-k : goal.invariant-loop-k
invariant-loop-k l = IsDenominator (values_in l.entries) l.k l.den
