use Rattle.sparse_board.proofs.RowSteps.{zero_adds}
use Rattle.sparse_board.proofs.sparse_row.SparseRow.push_any.Goals as goal

pub returns-else-not-is_zero : goal.returns-else-not-is_zero
returns-else-not-is_zero c =
    zero_adds c.args.self.now c.args.column c.args.value c.requires.above
    (c.is_zero.ensures.0 c.if-not-is_zero.false)
