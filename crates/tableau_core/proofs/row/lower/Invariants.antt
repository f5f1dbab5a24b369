use Rattle.tableau_core.proofs.RowSteps.{IsLoweredAt}
use Rattle.tableau_core.proofs.row.lower.Given as goal

abbrev pub invariant-loop-i : goal.invariant-loop-i
invariant-loop-i l = IsLoweredAt l.by l.step l.row l.places l.initial.next l.next l.i
