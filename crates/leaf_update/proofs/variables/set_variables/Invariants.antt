use Rattle.std.proofs.Common.{◌≡◌, ◌≤◌, ◌++◌, ◌*◌, ◌-◌, ◌^◌, List, drop}
use Rattle.std.specs.Prelude.{flat_map}
use Rattle.aff_core.specs.Address.{Address}
use Rattle.solver_store.specs.declared.leaf.LeafVar.{LeafVar}
use Rattle.fresh_bridging.specs.Leaves.{leaf_variables}
use Rattle.leaf_update.proofs.variables.set_variables.Given as goal
use Rattle.leaf_update.specs.Phases.{SetsVariables}

abbrev pub invariant-loop-leaf : goal.invariant-loop-leaf
invariant-loop-leaf l = record {
  done : (es : List (Address × LeafVar))
      × (es ++ flat_map leaf_variables (drop l.leaf-index l.leaves)
      ≡ flat_map leaf_variables l.leaves)
      × SetsVariables l.initial.map l.initial.solver.leaves es l.changed l.map l.solver.leaves;
  few : l.changed ≤ (2 ^ 64 - 1) * l.leaf-index;
}
