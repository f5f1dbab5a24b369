use Rattle.tableau_core.proofs.RowsSteps.{ArePreparedTo}
use Rattle.tableau_core.proofs.rows.prepare_rows.Given as goal

abbrev pub invariant-loop-i : goal.invariant-loop-i
invariant-loop-i l = ArePreparedTo l.r l.q l.step l.fn.rows l.rows l.i
