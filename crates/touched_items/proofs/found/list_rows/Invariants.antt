use Rattle.std.proofs.Common.{◌≡◌, ◌++◌, map, take}
use Rattle.touched_items.specs.Differences.{row_addresses}
use Rattle.touched_items.proofs.found.list_rows.Given as goal

abbrev pub invariant-loop-row : goal.invariant-loop-row
invariant-loop-row l =
    l.list.items ≡ l.fn.list.items ++ row_addresses (map (λ r. r.now) (take l.row-index l.rows))
