use Rattle.sparse_board.proofs.RowsSteps.{ArePreparedTo}
use Rattle.sparse_board.proofs.rows.prepare_rows.Given as goal

abbrev pub invariant-loop-k : goal.invariant-loop-k
invariant-loop-k l =
    ArePreparedTo l.step.width l.q l.step l.changes.rows.items l.fn.rows l.rows l.k
