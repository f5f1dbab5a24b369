use Rattle.sparse_board.specs.Lowering.{IsMixedReady}
use Rattle.sparse_board.proofs.RowsSteps.{AreChangedTo}
use Rattle.sparse_board.proofs.rows.ready_units.Given as goal

abbrev pub invariant-loop-k : goal.invariant-loop-k
invariant-loop-k l = AreChangedTo (IsMixedReady l.q l.step) l.changes.rows.items l.fn.rows l.rows l.k
