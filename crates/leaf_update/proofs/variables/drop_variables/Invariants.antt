use Rattle.std.proofs.Common.{◌≡◌, ℕ, ◌+◌, drop}
use Rattle.leaf_update.specs.Puts.{variables_in}
use Rattle.leaf_update.proofs.variables.drop_variables.Given as goal
use Rattle.leaf_update.specs.Phases.{AreDroppable, CountsAt, HasDropped}
use Rattle.leaf_update.specs.Splice.{without_all}

abbrev pub invariant-loop-at : goal.invariant-loop-at
invariant-loop-at l = record {
  done : HasDropped l.initial.map l.initial.solver.leaves l.at-index l.map l.solver.leaves;
  left : AreDroppable l.map l.solver.leaves (drop l.at-index l.gone);
  gone : without_all (variables_in l.map l.solver.leaves) (drop l.at-index l.gone)
      ≡ without_all (variables_in l.initial.map l.initial.solver.leaves) l.gone;
  counts : (whole : _) (c : ℕ)
      → CountsAt (variables_in l.map l.solver.leaves) whole (drop l.at-index l.gone) c
      → CountsAt (variables_in l.initial.map l.initial.solver.leaves) whole l.gone (c + l.at-index);
}
