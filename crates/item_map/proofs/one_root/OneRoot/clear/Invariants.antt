use Rattle.std.proofs.Common.{◌≤◌}
use Rattle.item_map.specs.ItemLists.{AreBetween}
use Rattle.item_map.proofs.one_root.OneRoot.clear.Given as goal

abbrev pub invariant-loop-number : goal.invariant-loop-number
invariant-loop-number g l = record {
  between : AreBetween l.number l.last l.self.items.items;
  room : l.fn.self.items.room ≤ l.self.items.room;
}
