use Rattle.std.proofs.Common.{◌≡◌, ◌++◌}
use Rattle.item_leaves.proofs.ListLaws.{keys}
use Rattle.item_leaves.proofs.listing.list_all.Given as goal

abbrev pub invariant-loop-leaf : goal.invariant-loop-leaf
invariant-loop-leaf l = l.list ++ keys l.leaf-iterator ≡ l.fn.list ++ keys l.fn.leaves
