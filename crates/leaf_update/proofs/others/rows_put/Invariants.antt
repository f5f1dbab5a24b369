use Rattle.std.proofs.Common.{◌≡◌, ◌++◌, drop}
use Rattle.std.specs.Prelude.{flat_map}
use Rattle.fresh_bridging.specs.Leaves.{leaf_rows}
use Rattle.leaf_update.specs.Splice.{keys_of}
use Rattle.leaf_update.proofs.others.rows_put.Given as goal

abbrev pub invariant-loop-leaf : goal.invariant-loop-leaf
invariant-loop-leaf l =
    l.put.items ++ keys_of (flat_map leaf_rows (drop l.leaf-index l.leaves))
    ≡ keys_of (flat_map leaf_rows l.leaves)
