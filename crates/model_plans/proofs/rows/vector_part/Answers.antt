use Rattle.std.proofs.Common.{◌≡◌, ◌+◌, ◌∷◌, [], ◌++◌, None, drop, take, sym, ap, subst, ◌∙◌}
use Rattle.std.specs.Prelude.{slice_get}
use Rattle.std.proofs.lemmas.Result.{IfOk-weaker}
use Rattle.model_plans.specs.Plans.{IsChange, HasParts, LeadsToTarget, with_part}
use Rattle.model_plans.proofs.PartEdits.{output_edited}
use Rattle.model_plans.proofs.RowPlans.{vector_new, vector_same}
use Rattle.model_plans.proofs.rows.vector_part.Goals as goal

pub returns-in_ok-funcs-in-Some : goal.returns-in_ok-funcs-in-Some
returns-in_ok-funcs-in-Some c =
    let model = c.args.model.now.model in
    let g = with_part c.args.part.now c.args.value in
    let f = c.args.component.now.func.now in
    let made = subst (IsChange f (g f)) c.in-Some.is c.in_ok-func.ensures in
    let listed = subst (λ k. c.in_ok-funcs-in-Some.funcs ≡ take k c.args.component.now.funcs.now
    ++ (c.in-Some.func ∷ drop (k + 1) c.args.component.now.funcs.now)) c.requires.component.1
    (subst (λ fs. c.in_ok-funcs-in-Some.funcs ≡ take c.args.component.now.place fs
    ++ (c.in-Some.func ∷ drop (c.args.component.now.place + 1) fs)) c.as_slice-funcs.ensures
    c.in_ok-funcs-in-Some.ensures) in
    IfOk-weaker c.with_function.result _ _ (λ plan p. subst (λ after. LeadsToTarget model after plan)
    (output_edited model c.args.row.now.name.now c.args.output c.args.part.now c.args.value
    c.requires.part) (vector_new model plan c.requires.consistent c.args.row.now.name.now
    c.args.row.now.row.now c.requires.row c.args.output g c.args.component.now.funcs.now f
    c.in-Some.func c.in_ok-funcs-in-Some.funcs c.requires.vector
    (ap (slice_get c.args.component.now.funcs.now) (sym c.requires.component.1)
    ∙ c.requires.component.2) made.0 made.1 listed p)) c.with_function.ensures

pub returns-in-None : goal.returns-in-None
returns-in-None c =
    let model = c.args.model.now.model in
    let g = with_part c.args.part.now c.args.value in
    let f = c.args.component.now.func.now in
    let made = subst (IsChange f (g f)) c.in-None.is c.in_ok-func.ensures in
    subst (λ after. LeadsToTarget model after c.unchanged.result)
    (output_edited model c.args.row.now.name.now c.args.output c.args.part.now c.args.value
    c.requires.part)
    (vector_same model c.unchanged.result c.requires.consistent c.args.row.now.name.now
    c.args.row.now.row.now c.requires.row c.args.output g c.args.component.now.funcs.now f
    c.requires.vector (ap (slice_get c.args.component.now.funcs.now)
    (sym c.requires.component.1) ∙ c.requires.component.2) made
    (subst (λ n. HasParts c.unchanged.result [] [] None n [] []) c.next.ensures
    c.unchanged.ensures))
