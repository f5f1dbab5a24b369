use Rattle.std.proofs.Common.{◌≡◌, ◌≢◌, ◌∷◌, [], None, Some, refl, sym, subst, ◌∙◌}
use Rattle.std.specs.Prelude.{MatchBool}
use Rattle.std.proofs.lemmas.Result.{IfOk-weaker}
use Rattle.user_model.specs.Edited.{edited}
use Rattle.model_plans.specs.Plans.{HasParts}
use Rattle.model_plans.proofs.Leading.{parts_same}
use Rattle.set_core.specs.SetLaws.{same_sets}
use Rattle.model_plans.proofs.RowPlans.{set_new, set_same}
use Rattle.model_plans.proofs.rows.set.Goals as goal

pub returns-then-eq : goal.returns-then-eq
unfolding edited
returns-then-eq c =
    let model = c.args.model.now.model in
    let same = subst (λ b. MatchBool b (c.args.row.now.row.now.set ≡ c.args.set.now)
    (c.args.row.now.row.now.set ≢ c.args.set.now)) (sym c.eq.ensures ∙ c.if-eq.true)
    (same_sets c.args.row.now.row.now.set c.args.set.now) in
    set_same model c.unchanged.result c.requires.consistent c.args.row.now.name.now
    c.args.row.now.row.now c.requires.row c.args.set.now same
    (subst (λ n. HasParts c.unchanged.result [] [] None n [] []) c.next.ensures
    c.unchanged.ensures)

pub returns : goal.returns
unfolding edited
returns c =
    let model = c.args.model.now.model in
    let other = subst (λ b. MatchBool b (c.args.row.now.row.now.set ≡ c.args.set.now)
    (c.args.row.now.row.now.set ≢ c.args.set.now)) (sym c.eq.ensures ∙ c.if-eq.false)
    (same_sets c.args.row.now.row.now.set c.args.set.now) in
    let name = c.in_ok-copy.ensures in
    let func : c.in_ok-copy-3.field-0 ≡ c.args.row.now.row.now.func = c.in_ok-copy-3.ensures in
    let set : c.in_ok-copy-2.field-0 ≡ c.args.set.now = c.in_ok-copy-2.ensures in
    IfOk-weaker c.of_row.result _ _ (λ plan p. set_new model plan c.requires.consistent
    c.args.row.now.name.now c.args.row.now.row.now c.requires.row c.args.set.now other
    (parts_same p [] _ _ [] [] refl (λ i. record {
      number = c.args.row.now.row.now.id;
      content = Some (record {
        id = c.args.row.now.row.now.id;
        name = name i;
        func = func i;
        set = set i;
      });
    } ∷ []) c.next-2.ensures refl refl)) c.of_row.ensures
