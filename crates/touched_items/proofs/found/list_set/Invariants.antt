use Rattle.std.proofs.Common.{◌≡◌, ◌++◌}
use Rattle.std.specs.FinMap.{keys}
use Rattle.std.specs.Prelude.{map}
use Rattle.touched_items.proofs.found.list_set.Given as goal

abbrev pub invariant-loop-item : goal.invariant-loop-item
invariant-loop-item l =
    l.list.items ++ map (λ e. e.0) l.item-iterator ≡ l.fn.list.items ++ keys l.items
