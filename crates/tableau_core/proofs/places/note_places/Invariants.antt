use Rattle.tableau_core.proofs.RowSteps.{IsNotedTo}
use Rattle.tableau_core.proofs.places.note_places.Given as goal

abbrev pub invariant-loop-j : goal.invariant-loop-j
invariant-loop-j l = IsNotedTo l.row l.places l.used l.j
