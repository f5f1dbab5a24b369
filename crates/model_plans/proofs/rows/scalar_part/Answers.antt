use Rattle.std.proofs.Common.{[], None, subst}
use Rattle.std.proofs.lemmas.Result.{IfOk-weaker}
use Rattle.model_plans.specs.Plans.{IsChange, HasParts, LeadsToTarget, with_part}
use Rattle.model_plans.proofs.PartEdits.{row_edited}
use Rattle.model_plans.proofs.RowPlans.{scalar_new, scalar_same}
use Rattle.model_plans.proofs.rows.scalar_part.Goals as goal

pub returns-in-Some : goal.returns-in-Some
returns-in-Some c =
    let model = c.args.model.now.model in
    let g = with_part c.args.part.now c.args.value in
    let f = c.args.func.now in
    let made = subst (IsChange f (g f)) c.in-Some.is c.in_ok-func.ensures in
    IfOk-weaker c.with_function.result _ _ (λ plan p. subst (λ after. LeadsToTarget model after plan)
    (row_edited model c.args.row.now.name.now c.args.part.now c.args.value c.requires.part)
    (scalar_new model plan c.requires.consistent c.args.row.now.name.now c.args.row.now.row.now
    c.requires.row g f c.in-Some.func c.requires.affine made.0 made.1 p))
    c.with_function.ensures

pub returns-in-None : goal.returns-in-None
returns-in-None c =
    let model = c.args.model.now.model in
    let g = with_part c.args.part.now c.args.value in
    let f = c.args.func.now in
    let made = subst (IsChange f (g f)) c.in-None.is c.in_ok-func.ensures in
    subst (λ after. LeadsToTarget model after c.unchanged.result)
    (row_edited model c.args.row.now.name.now c.args.part.now c.args.value c.requires.part)
    (scalar_same model c.unchanged.result c.requires.consistent c.args.row.now.name.now
    c.args.row.now.row.now c.requires.row g f c.requires.affine made
    (subst (λ n. HasParts c.unchanged.result [] [] None n [] []) c.next.ensures
    c.unchanged.ensures))
