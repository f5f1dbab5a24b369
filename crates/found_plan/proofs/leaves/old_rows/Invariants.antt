use Rattle.std.proofs.Common.{◌≡◌, ◌++◌, drop}
use Rattle.std.specs.Prelude.{flat_map}
use Rattle.address_map.specs.Places.{addresses}
use Rattle.item_leaves.specs.ItemLeaves.{those_of}
use Rattle.found_plan.proofs.leaves.old_rows.Given as goal

abbrev pub invariant-loop-at : goal.invariant-loop-at
invariant-loop-at l =
    l.had ++ flat_map (λ at. those_of at (addresses l.map.rows.indices)) (drop l.at-index l.items)
    ≡ flat_map (λ at. those_of at (addresses l.map.rows.indices)) l.items
