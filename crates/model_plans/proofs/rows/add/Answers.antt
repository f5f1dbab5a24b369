use Rattle.std.proofs.Common.{◌≡◌, ◌+◌, ◌∷◌, [], Some, arith, refl, ap, ◌∙◌}
use Rattle.std.proofs.lemmas.Result.{IfOk-weaker}
use Rattle.user_model.specs.declared.edit.Edit.TheVariants as edit
use Rattle.user_model.specs.Edited.{edited, located}
use Rattle.model_laws.specs.Needed.{known_function}
use Rattle.model_laws.specs.Passed.{passed}
use Rattle.model_catalog.specs.Names.{listed_as}
use Rattle.model_plans.proofs.Leading.{parts_same}
use Rattle.model_plans.proofs.RowPlans.{added_leads, next_row}
use Rattle.model_plans.proofs.rows.add.Goals as goal

pub located-requires-clause-known : goal.located-requires-clause-known
located-requires-clause-known c =
    let model = c.args.model.now.model in
    let e = edit.AddRow c.args.name.now c.args.func.now c.args.set.now in
    known_function model e c.args.func.now refl (passed model e c.requires.accepted).known

pub overflow_add-after : goal.overflow_add-after
overflow_add-after c =
    let row = ap (λ k. k.row) c.next-next.ensures in
    let fits = next_row c.args.model.now.model c.args.name.now c.args.func.now c.args.set.now
    c.requires in
    omega (arith, row, fits)

pub returns : goal.returns
unfolding edited
returns c =
    let model = c.args.model.now.model in
    let next = c.next-next.ensures in
    let func : c.in_ok-located.field-0 ≡ located model c.args.func.now = c.in_ok-located.ensures in
    let name = c.in_ok-copy.ensures in
    let copied = c.in_ok-copy-2.ensures in
    let set : c.in_ok-copy-3.field-0 ≡ c.args.set.now = c.in_ok-copy-3.ensures in
    IfOk-weaker c.of_row.result _ _ (λ plan p. added_leads model plan c.args.name.now
    (located model c.args.func.now) c.args.set.now c.requires.consistent
    (parts_same p [] _ _ [] _ refl (λ i. record {
      number = (next i).row;
      content = Some (record {
        id = (next i).row;
        name = copied i;
        func = func i;
        set = set i;
      });
    } ∷ []) (λ i. record {
      group = (next i).group;
      variable = (next i).variable;
      row = (next i).row + 1;
    }) refl (ap (λ l. l ∷ []) c.new-listed.ensures
    ∙ (λ i. listed_as (next i).row (Some (name i)) ∷ [])))) c.of_row.ensures
