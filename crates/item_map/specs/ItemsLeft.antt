-- The items that are left of each root, as one list.
use Rattle.std.specs.Prelude.{List, ◌++◌}
use Rattle.item_map.specs.declared.entries.ItemsLeft.{ItemsLeft}
use Rattle.item_map.specs.declared.item_entries.ItemEntries.{ItemEntries}

abbrev pub items_left : {V : Type 0} → ItemsLeft V → List (ItemEntries V)
items_left a = a.variables ++ (a.groups ++ (a.rows ++ a.objectives))
