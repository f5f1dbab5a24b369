use Rattle.std.proofs.Common.{◌≡◌, ◌++◌, map, take}
use Rattle.touched_items.specs.Differences.{group_addresses}
use Rattle.touched_items.proofs.found.list_groups.Given as goal

abbrev pub invariant-loop-group : goal.invariant-loop-group
invariant-loop-group l =
    l.list.items
    ≡ l.fn.list.items ++ group_addresses (map (λ g. g.now) (take l.group-index l.groups))
