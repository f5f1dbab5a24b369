use Rattle.tableau_core.proofs.RowsSteps.{AreSettledTo}
use Rattle.tableau_core.proofs.rows.settle_rows.Given as goal

abbrev pub invariant-loop-i : goal.invariant-loop-i
invariant-loop-i l = AreSettledTo l.r l.q l.places l.fn.rows l.rows l.i
