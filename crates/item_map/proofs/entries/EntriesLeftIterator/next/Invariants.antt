use Rattle.std.proofs.Common.{◌≡◌, ◌++◌, length}
use Rattle.item_map.specs.ItemLists.{of_items}
use Rattle.item_map.specs.ItemsLeft.{items_left}
use Rattle.item_map.proofs.entries.EntriesLeftIterator.next.Given as goal

abbrev pub invariant-entries : goal.invariant-entries
invariant-entries g l =
    l.self-inside.own ++ of_items (items_left l.self-inside.left)
    ≡ l.initial.self-inside.own ++ of_items (items_left l.initial.self-inside.left)

abbrev pub decreases-entries : goal.decreases-entries
decreases-entries g l = length (items_left l.self-inside.left)
