use Rattle.std.proofs.Common.{◌≡◌, ◌++◌}
use Rattle.std.specs.Prelude.{flat_map, map}
use Rattle.address_map.specs.Places.{addresses}
use Rattle.fresh_bridging.specs.Leaves.{leaf_variables}
use Rattle.leaf_update.specs.Others.{others}
use Rattle.leaf_update.specs.Splice.{keys_of}
use Rattle.leaf_update.proofs.others.other_variables.Given as goal

abbrev pub invariant-loop-entry : goal.invariant-loop-entry
invariant-loop-entry l =
    l.gone.items
    ++ others (keys_of (flat_map leaf_variables l.leaves)) (map (λ e. e.0) l.entry-iterator)
    ≡ others (keys_of (flat_map leaf_variables l.leaves)) (addresses l.map.vars.indices)
