use Rattle.std.proofs.Common.{◌≡◌, ◌++◌, flat_map, take}
use Rattle.address_map.specs.Noted.{noted_items}
use Rattle.touched_items.specs.Differences.{differing_addresses}
use Rattle.touched_items.proofs.found.list_found.Given as goal

abbrev pub invariant-loop-var : goal.invariant-loop-var
invariant-loop-var l =
    l.list.items
    ≡ differing_addresses l.differing
    ++ flat_map (noted_items l.map.noted) (take l.var-index l.changed)
