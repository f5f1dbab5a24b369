use Rattle.std.proofs.Common.{◌≡◌, ◌++◌, drop, map}
use Rattle.std.specs.Prelude.{flat_map}
use Rattle.found_plan.specs.Read.{named_in_row, read_entries}
use Rattle.found_plan.proofs.standing.read_rows.Given as goal
use Rattle.user_model.specs.declared.row.Row.{Row}

abbrev pub invariant-loop-row : goal.invariant-loop-row
invariant-loop-row l =
    l.entries.items
    ++ read_entries l.map (flat_map (λ (r : Row). named_in_row r.func)
    (map (λ r. r.now) (drop l.row-index l.rows)))
    ≡ l.fn.entries.items
    ++ read_entries l.map (flat_map (λ (r : Row). named_in_row r.func) (map (λ r. r.now) l.rows))
