use Rattle.std.proofs.Common.{◌≡◌, ◌≤◌, ◌+◌, map, take}
use Rattle.std.specs.Prelude.{count_by}
use Rattle.std.specs.List.{filter_map}
use Rattle.touched_items.specs.Search.{is_row, row_at}
use Rattle.touched_items.proofs.found.read_rows.Given as goal

abbrev pub invariant-loop-at : goal.invariant-loop-at
invariant-loop-at l = record {
  rows : map (λ r. r.now) l.rows.items
      ≡ filter_map (row_at l.fn.reading.model) (take l.at-index l.addresses);
  model : l.reading.model ≡ l.fn.reading.model;
  reads : l.reading.reads
      ≤ l.fn.reading.reads + count_by is_row (take l.at-index l.addresses);
}
