use Rattle.std.proofs.Common.{◌≡◌, ◌≤◌, ◌++◌, List, drop}
use Rattle.aff_core.specs.Address.{Address}
use Rattle.solver_store.specs.declared.leaf.LeafVar.{LeafVar}
use Rattle.leaf_update.specs.Puts.{variables_as}
use Rattle.leaf_update.proofs.variables.set_each.Given as goal
use Rattle.leaf_update.specs.Phases.{SetsVariables}

abbrev pub invariant-loop-at : goal.invariant-loop-at
invariant-loop-at l = record {
  done : (es : List (Address × LeafVar))
      × (es ++ variables_as l.var (drop l.at-index l.vars) ≡ variables_as l.var l.vars)
      × SetsVariables l.initial.map l.initial.solver.leaves es l.changed l.map l.solver.leaves;
  few : l.changed ≤ l.at-index;
}
