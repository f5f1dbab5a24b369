use Rattle.std.proofs.Common.{◌∷◌, [], refl, ap}
use Rattle.std.proofs.lemmas.Result.{IfOk-weaker}
use Rattle.user_model.specs.Edited.{edited}
use Rattle.model_plans.proofs.Leading.{parts_same}
use Rattle.model_plans.proofs.RowPlans.{deleted_leads}
use Rattle.model_plans.proofs.rows.delete.Goals as goal

pub returns : goal.returns
unfolding edited
returns c =
    let model = c.args.model.now.model in
    IfOk-weaker c.of_row_change.result _ _ (λ plan p. deleted_leads model plan c.requires.consistent
    c.args.row.now.name.now c.args.row.now.row.now c.requires.row
    (parts_same p [] _ _ [] _ refl refl c.next.ensures refl (ap (λ l. l ∷ []) c.new.ensures)))
    c.of_row_change.ensures
