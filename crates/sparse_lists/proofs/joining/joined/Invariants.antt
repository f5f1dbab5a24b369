use Rattle.std.proofs.Common.{take, ◌≡◌}
use Rattle.std.specs.Prelude.{flat_map}
use Rattle.sparse_lists.specs.Across.{padded}
use Rattle.sparse_lists.proofs.joining.joined.Given as goal

abbrev pub invariant-loop-list : goal.invariant-loop-list
invariant-loop-list l = l.all ≡ flat_map (padded l.len) (take l.list-index l.lists)
