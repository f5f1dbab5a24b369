use Rattle.std.specs.Prelude.{drop}
use Rattle.dualization.specs.Fitting.{moves_to}
use Rattle.dualization.proofs.MoveLemmas.{MovedSoFar}
use Rattle.dualization.proofs.moving.move_each.Given as goal

abbrev pub invariant-loop-var : goal.invariant-loop-var
invariant-loop-var l =
    MovedSoFar l.rows.items l.objective (moves_to l.vars l.bound)
    (moves_to (drop l.var-index l.vars) l.bound) l.fn.sums l.now
