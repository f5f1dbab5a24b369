use Rattle.dualization.proofs.CarryLemmas.{JoinedSoFar}
use Rattle.dualization.proofs.carrying.carried_rows.Given as goal

abbrev pub invariant-loop-row : goal.invariant-loop-row
invariant-loop-row l = JoinedSoFar l.rows.items l.row-iterator l.x l.left l.carried.items
