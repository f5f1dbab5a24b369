use Rattle.dualization.specs.Fitting.{moves}
use Rattle.dualization.proofs.MoveLemmas.{MovedSoFar}
use Rattle.dualization.proofs.moving.move_groups.Given as goal

abbrev pub invariant-loop-group : goal.invariant-loop-group
invariant-loop-group l =
    MovedSoFar l.rows.items l.objective (moves l.groups.items) (moves l.group-iterator) l.fn.sums l.now
