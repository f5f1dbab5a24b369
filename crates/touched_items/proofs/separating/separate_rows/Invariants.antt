use Rattle.std.proofs.Common.{◌≡◌, ◌≤◌, ◌+◌, map, take}
use Rattle.fresh_bridging.specs.ModelImage.{row_item}
use Rattle.numbered_list.specs.Numbered.{find}
use Rattle.user_model.specs.Edited.{row_number}
use Rattle.touched_items.specs.SideLaws.{AreSidesOf}
use Rattle.touched_items.proofs.separating.separate_rows.Given as goal

abbrev pub invariant-loop-change : goal.invariant-loop-change
invariant-loop-change l = record {
  sides : AreSidesOf row_number row_item (λ n. find row_number n l.fn.reading.model.rows)
      (map (λ c. c.now) (take l.change-index l.listed))
      (map (λ r. r.now) l.before.items) (map (λ r. r.now) l.after.items);
  model : l.reading.model ≡ l.fn.reading.model;
  reads : l.reading.reads ≤ l.fn.reading.reads + l.change-index;
}
