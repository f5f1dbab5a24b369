use Rattle.std.proofs.Common.{arith, ap, ◌∙◌, map}
use Rattle.fresh_bridging.specs.ModelImage.{row_item}
use Rattle.model_store.specs.Reading.{ReadModel}
use Rattle.numbered_list.specs.Laws.{IsAt-find}
use Rattle.numbered_list.specs.Numbered.{find}
use Rattle.std.specs.Option.{option_copied}
use Rattle.user_model.specs.Edited.{row_number}
use Rattle.user_model.specs.Model.{ModelValue}
use Rattle.touched_items.proofs.Separated.{one_separated}
use Rattle.touched_items.proofs.separating.separate_rows.Goals as goal

pub loop-change-preserved : goal.loop-change-preserved
loop-change-preserved c =
    let l = c.loop-change in
    let x = c.change-item.result in
    record {
      sides = one_separated row_number row_item
          (λ n. find row_number n c.args.reading.now.model.rows) (λ c. c.now) c.args.listed.now
          c.requires l.change-index x c.change-item.is c.loop-change-test.true
          (map (λ r. r.now) l.before.items) (map (λ r. r.now) l.after.items)
          (map (λ r. r.now) c.separate.new.before.items)
          (map (λ r. r.now) c.separate.new.after.items) c.same_rows.result
          (IsAt-find row_number x.now.number c.args.reading.now.model.rows) l.invariant.sides
          (option_copied c.as_ref-was.result) (option_copied c.row-is.result)
          c.as_ref-was.ensures.value
          (c.row-is.ensures.value
          ∙ ap (λ (m : ModelValue). find row_number x.now.number m.rows) l.invariant.model)
          c.same_rows.ensures c.in_ok-separate.ensures.before c.in_ok-separate.ensures.after;
      model = ap (λ (r : ReadModel). r.model) c.row-is.ensures.read ∙ l.invariant.model;
      reads = omega (
        arith,
        ap (λ (r : ReadModel). r.reads) c.row-is.ensures.read,
        l.invariant.reads,
      );
    }
