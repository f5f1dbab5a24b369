use Rattle.std.proofs.Common.{◌≡◌, drop}
use Rattle.std.specs.Prelude.{flat_map}
use Rattle.fresh_bridging.specs.Leaves.{leaf_objectives}
use Rattle.leaf_update.proofs.objective.objective_among.Given as goal

abbrev pub invariant-loop-leaf : goal.invariant-loop-leaf
invariant-loop-leaf l = record {
  left : flat_map leaf_objectives (drop l.leaf-index l.leaves) ≡ flat_map leaf_objectives l.leaves;
}
