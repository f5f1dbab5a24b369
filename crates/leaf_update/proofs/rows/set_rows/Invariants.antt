use Rattle.std.proofs.Common.{◌≡◌, ◌≤◌, ◌++◌, List, drop}
use Rattle.std.specs.Prelude.{flat_map}
use Rattle.aff_core.specs.Address.{Address}
use Rattle.item_core.specs.declared.item.Body.{Body}
use Rattle.fresh_bridging.specs.Leaves.{leaf_rows}
use Rattle.leaf_update.proofs.rows.set_rows.Given as goal
use Rattle.leaf_update.specs.Phases.{SetsRows}

abbrev pub invariant-loop-leaf : goal.invariant-loop-leaf
invariant-loop-leaf l = record {
  done : (es : List (Address × Body))
      × (es ++ flat_map leaf_rows (drop l.leaf-index l.leaves) ≡ flat_map leaf_rows l.leaves)
      × SetsRows l.initial.map l.initial.solver.leaves es l.changed l.map l.solver.leaves;
  few : l.changed ≤ l.leaf-index;
}
