use Rattle.sparse_board.proofs.StaySteps.{StayTo}
use Rattle.sparse_board.proofs.rows.all_stay.Given as goal

abbrev pub invariant-loop-k : goal.invariant-loop-k
invariant-loop-k l = StayTo l.q l.step l.changes.rows.items l.rows l.k
