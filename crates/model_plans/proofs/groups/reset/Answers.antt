use Rattle.std.proofs.Common.{◌≡◌, ◌≢◌, ◌∷◌, [], None, refl, sym, subst, ◌∙◌}
use Rattle.std.specs.Prelude.{MatchBool}
use Rattle.std.proofs.lemmas.Result.{IfOk-weaker}
use Rattle.user_model.specs.Edited.{edited, group_number}
use Rattle.model_laws.specs.ItemChanges.{set_to}
use Rattle.model_plans.specs.Plans.{HasParts}
use Rattle.model_plans.proofs.Leading.{parts_same}
use Rattle.set_core.specs.SetLaws.{same_sets}
use Rattle.model_plans.proofs.GroupPlans.{group_set_new_leads, group_set_same_leads}
use Rattle.model_plans.proofs.groups.reset.Goals as goal

pub returns-then-eq : goal.returns-then-eq
unfolding edited
returns-then-eq c =
    let model = c.args.model.now.model in
    let same = subst (λ b. MatchBool b (c.args.var.now.group.now.set ≡ c.args.set.now)
    (c.args.var.now.group.now.set ≢ c.args.set.now)) (sym c.eq.ensures ∙ c.if-eq.true)
    (same_sets c.args.var.now.group.now.set c.args.set.now) in
    group_set_same_leads model c.unchanged.result c.requires.consistent c.args.var.now.name.now
    c.args.var.now.number c.requires.var.0 c.args.var.now.group.now c.requires.var.1
    c.args.set.now same (subst (λ n. HasParts c.unchanged.result [] [] None n [] [])
    c.next.ensures c.unchanged.ensures)

pub returns : goal.returns
unfolding edited
returns c =
    let model = c.args.model.now.model in
    let other = subst (λ b. MatchBool b (c.args.var.now.group.now.set ≡ c.args.set.now)
    (c.args.var.now.group.now.set ≢ c.args.set.now)) (sym c.eq.ensures ∙ c.if-eq.false)
    (same_sets c.args.var.now.group.now.set c.args.set.now) in
    let copied : c.in_ok-group.group ≡ c.args.var.now.group.now = c.in_ok-group.ensures in
    let set : c.in_ok-group-2.field-0 ≡ c.args.set.now = c.in_ok-group-2.ensures in
    IfOk-weaker c.of_group.result _ _ (λ plan p. group_set_new_leads model plan
    c.requires.consistent c.args.var.now.name.now c.args.var.now.number c.requires.var.0
    c.args.var.now.group.now c.requires.var.1 c.args.set.now other
    (parts_same p.0 _ [] _ [] [] (λ i. set_to group_number
    (record (copied i) { set = set i }) ∷ []) refl c.next-2.ensures c.new.ensures.items refl))
    c.of_group.ensures
