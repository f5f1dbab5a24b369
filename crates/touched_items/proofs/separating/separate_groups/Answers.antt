use Rattle.std.proofs.Common.{arith, ap, ◌∙◌, map}
use Rattle.fresh_bridging.specs.ModelImage.{group_item}
use Rattle.model_store.specs.Reading.{ReadModel}
use Rattle.numbered_list.specs.Laws.{IsAt-find}
use Rattle.numbered_list.specs.Numbered.{find}
use Rattle.std.specs.Option.{option_copied}
use Rattle.user_model.specs.Edited.{group_number}
use Rattle.user_model.specs.Model.{ModelValue}
use Rattle.touched_items.proofs.Separated.{one_separated}
use Rattle.touched_items.proofs.separating.separate_groups.Goals as goal

pub loop-change-preserved : goal.loop-change-preserved
loop-change-preserved c =
    let l = c.loop-change in
    let x = c.change-item.result in
    record {
      sides = one_separated group_number group_item
          (λ n. find group_number n c.args.reading.now.model.groups) (λ c. c.now) c.args.listed.now
          c.requires l.change-index x c.change-item.is c.loop-change-test.true
          (map (λ r. r.now) l.before.items) (map (λ r. r.now) l.after.items)
          (map (λ r. r.now) c.separate.new.before.items)
          (map (λ r. r.now) c.separate.new.after.items) c.same_groups.result
          (IsAt-find group_number x.now.number c.args.reading.now.model.groups) l.invariant.sides
          (option_copied c.as_ref-was.result) (option_copied c.group-is.result)
          c.as_ref-was.ensures.value
          (c.group-is.ensures.value
          ∙ ap (λ (m : ModelValue). find group_number x.now.number m.groups) l.invariant.model)
          c.same_groups.ensures c.in_ok-separate.ensures.before c.in_ok-separate.ensures.after;
      model = ap (λ (r : ReadModel). r.model) c.group-is.ensures.read ∙ l.invariant.model;
      reads = omega (
        arith,
        ap (λ (r : ReadModel). r.reads) c.group-is.ensures.read,
        l.invariant.reads,
      );
    }
