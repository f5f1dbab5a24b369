use Rattle.std.proofs.Common.{◌≡◌, ◌≤◌, ◌+◌, map, take}
use Rattle.fresh_bridging.specs.ModelImage.{group_item}
use Rattle.numbered_list.specs.Numbered.{find}
use Rattle.user_model.specs.Edited.{group_number}
use Rattle.touched_items.specs.SideLaws.{AreSidesOf}
use Rattle.touched_items.proofs.separating.separate_groups.Given as goal

abbrev pub invariant-loop-change : goal.invariant-loop-change
invariant-loop-change l = record {
  sides : AreSidesOf group_number group_item (λ n. find group_number n l.fn.reading.model.groups)
      (map (λ c. c.now) (take l.change-index l.listed))
      (map (λ r. r.now) l.before.items) (map (λ r. r.now) l.after.items);
  model : l.reading.model ≡ l.fn.reading.model;
  reads : l.reading.reads ≤ l.fn.reading.reads + l.change-index;
}
