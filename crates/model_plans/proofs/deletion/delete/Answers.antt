use Rattle.std.proofs.Common.{◌≡◌, ◌∷◌, [], None, refl, ap, subst, ◌∙◌}
use Rattle.user_model.specs.Deletion.{group_without, objective_without, row_without}
use Rattle.user_model.specs.Edited.{edited, row_number}
use Rattle.user_model.specs.Model.{has_variable, row_mentions, variable_address}
use Rattle.model_laws.specs.Found.{found_passes}
use Rattle.model_laws.specs.ItemChanges.{edits_of}
use Rattle.model_laws.specs.DeletionChanges.{deletion_changes}
use Rattle.model_plans.specs.Plans.{HasParts, IsChange, gone}
use Rattle.model_plans.proofs.DeletionPlans.{deleted_leads}
use Rattle.model_plans.proofs.deletion.delete.Goals as goal

pub group_without-requires : goal.group_without-requires
group_without-requires c =
    found_passes (has_variable c.args.var.now.number) c.args.model.now.model.groups
    c.args.var.now.group.now c.requires.var.1

pub returns : goal.returns
unfolding edited
returns c =
    let model = c.args.model.now.model in
    let n = c.args.var.now.number in
    let group = c.args.var.now.group.now in
    let place : c.root-at.result ≡ variable_address n = c.root-at.ensures in
    let changed : c.in_ok-plan-2.field-0.items ≡ edits_of row_number (row_without c.root-at.result)
    (row_mentions c.root-at.result) c.rows.result.now.items = c.in_ok-plan-2.ensures in
    let rows : c.in_ok-plan-2.field-0.items ≡ deletion_changes model n =
    changed ∙ (ap (edits_of row_number (row_without c.root-at.result)
    (row_mentions c.root-at.result)) c.rows.ensures.value ∙ ap
    (λ at. edits_of row_number (row_without at) (row_mentions at) model.rows) place) in
    let going : c.in_ok-plan-3.field-0.items ≡ gone c.deref.result.now = c.in_ok-plan-3.ensures in
    let left : IsChange c.objective.result.now (objective_without c.root-at.result
    c.objective.result.now) c.in_ok-plan-4.field-0 = c.in_ok-plan-4.ensures in
    let made : c.in_ok-group_without.field-0 ≡ group_without n group =
    c.in_ok-group_without.ensures in
    let names : c.in_ok-listed.listed.items ≡ c.new.result ∷ [] = c.in_ok-listed.ensures in
    let p : HasParts c.in_ok-plan.plan (record {
      number = group.id;
      content = c.in_ok-group_without.field-0;
    } ∷ []) [] None c.next.result
    c.in_ok-listed.listed.items []
    × (c.in_ok-plan.plan.names.group ≡ group.id) = c.in_ok-plan.ensures in
    deleted_leads model _ c.requires.consistent c.args.var.now.name.now n c.requires.var.0 group
    c.requires.var.1 c.in_ok-plan-4.field-0
    (subst (λ at. IsChange model.objective (objective_without at model.objective)
    c.in_ok-plan-4.field-0) place
    (subst (λ old. IsChange old (objective_without c.root-at.result old) c.in_ok-plan-4.field-0)
    c.objective.ensures.value left))
    p.1
    (record {
      groups = p.0.groups ∙ ap (λ content. record { number = group.id; content = content } ∷ [])
          made;
      rows = rows;
      objective = refl;
      next = p.0.next ∙ c.next.ensures;
      variables = p.0.variables ∙ (names ∙ ap (λ l. l ∷ []) c.new.ensures);
      row_names = going ∙ ap gone (c.deref.ensures.value ∙ rows);
    })
