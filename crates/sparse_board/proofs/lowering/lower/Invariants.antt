use Rattle.sparse_board.specs.Sparse.{columns_in, values_in}
use Rattle.sparse_board.proofs.LoweringSteps.{IsLoweredTo}
use Rattle.sparse_board.proofs.lowering.lower.Given as goal

abbrev pub invariant-loop-k : goal.invariant-loop-k
invariant-loop-k l = IsLoweredTo l.row l.by (columns_in l.units) (values_in l.units) l.next l.k l.i
