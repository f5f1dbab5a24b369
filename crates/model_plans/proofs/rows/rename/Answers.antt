use Rattle.std.proofs.Common.{◌≡◌, ◌∷◌, [], Some, refl, ap, ◌∙◌}
use Rattle.std.proofs.lemmas.Result.{IfOk-weaker}
use Rattle.user_model.specs.declared.edit.Edit.TheVariants as edit
use Rattle.user_model.specs.Edited.{edited}
use Rattle.model_catalog.specs.Names.{listed_as}
use Rattle.model_plans.proofs.Leading.{parts_same}
use Rattle.model_laws.specs.Passed.{passed}
use Rattle.model_plans.proofs.RowPlans.{renamed_leads}
use Rattle.model_plans.proofs.rows.rename.Goals as goal

pub returns : goal.returns
unfolding edited
returns c =
    let model = c.args.model.now.model in
    let free = (passed model (edit.RenameRow c.args.row.now.name.now c.args.new.now)
    c.requires.accepts.accepted).free in
    let listed_name = c.in_ok-copy.ensures in
    let name = c.in_ok-copy-2.ensures in
    let func : c.in_ok-copy-4.field-0 ≡ c.args.row.now.row.now.func = c.in_ok-copy-4.ensures in
    let set : c.in_ok-copy-3.field-0 ≡ c.args.row.now.row.now.set = c.in_ok-copy-3.ensures in
    IfOk-weaker c.of_row.result _ _ (λ plan p. renamed_leads model plan
    c.requires.accepts.consistent c.args.row.now.name.now c.args.row.now.row.now c.requires.row
    c.args.new.now free (parts_same p [] _ _ [] _ refl
    (λ i. record {
      number = c.args.row.now.row.now.id;
      content = Some (record {
        id = c.args.row.now.row.now.id;
        name = name i;
        func = func i;
        set = set i;
      });
    } ∷ []) c.next.ensures refl (ap (λ l. l ∷ []) c.new-listed.ensures
    ∙ (λ i. listed_as c.args.row.now.row.now.id (Some (listed_name i)) ∷ [])))) c.of_row.ensures
