use Rattle.std.proofs.Common.{◌≡◌, ◌++◌, List, drop}
use Rattle.aff_core.specs.Address.{Address}
use Rattle.leaf_update.proofs.rows.drop_rows.Given as goal
use Rattle.leaf_update.specs.Phases.{DropsRows}

abbrev pub invariant-loop-at : goal.invariant-loop-at
invariant-loop-at l = record {
  done : (ks : List Address) × (ks ++ drop l.at-index l.gone ≡ l.gone)
      × DropsRows l.initial.map l.initial.solver.leaves ks l.at-index l.map l.solver.leaves;
}
