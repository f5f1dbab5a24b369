use Rattle.dualization.proofs.MoveLemmas.{StartedSoFar}
use Rattle.dualization.proofs.starting.start_sums.Given as goal

abbrev pub invariant-loop-row : goal.invariant-loop-row
invariant-loop-row l = StartedSoFar l.rows.items l.row-iterator l.parts.items
