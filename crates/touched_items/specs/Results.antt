-- The rows that a search hands out.
use Rattle.std.specs.Prelude.{List, map}
use Rattle.user_model.specs.declared.row.Row.{Row}
use Rattle.touched_items.specs.declared.found.FoundItems.{FoundItems}

abbrev pub found_rows : FoundItems → List Row
found_rows found = map (λ r. r.now) found.rows.items
