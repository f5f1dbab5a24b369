use Rattle.std.proofs.Common.{ap}
use Rattle.sparse_board.specs.Sparse.{columns_in, values_in}
use Rattle.sparse_board.proofs.RowSteps.{below_none, sparse_none}
use Rattle.sparse_board.proofs.sparse_row.SparseRow.closed.Goals as goal

pub invariant_of-result : goal.invariant_of-result
invariant_of-result c = record {
  sparse = sparse_none _ _ (ap columns_in c.new.ensures.items) (ap values_in c.new.ensures.items);
  within = below_none _ _ (ap columns_in c.new.ensures.items);
}
