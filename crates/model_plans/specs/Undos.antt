-- What leads back from a plan.
use Rattle.std.proofs.Common.{◌≡◌, Option, Some, None, refl, sym, ap, subst, ◌∙◌}
use Rattle.std.specs.Option.{option_map}
use Rattle.user_model.specs.declared.objective.Objective.{Objective}
use Rattle.user_model.specs.declared.undo.Undo.{Undo}
use Rattle.user_model.specs.Model.{ModelValue}
use Rattle.user_model.specs.Edited.{group_number, row_number}
use Rattle.user_model.specs.Undone.{IsOldObjective, IsUndo}
use Rattle.model_laws.specs.ItemChanges.{differences}
use Rattle.model_catalog.specs.Exchange.{contents, exchanged, standing}
use Rattle.model_plans.specs.declared.plan.EditPlan.{EditPlan}
use Rattle.model_plans.specs.Plans.{LeadsToTarget}

old_objective : (old new : Objective) (o : Option Objective) → IsOldObjective new old o
    → IsOldObjective old new (option_map (λ _. old) o)
old_objective old new None e = sym e
old_objective old new (Some content) e = (refl, λ same. e.1 (sym same))

-- what stood where the plan's contents are is what leads back
pub undo_of : (model after : ModelValue) (plan : EditPlan) → LeadsToTarget model after plan
    → IsUndo model after (standing model (contents plan.exchange))
undo_of model after plan h =
    subst (λ m. IsUndo model m (standing model (contents plan.exchange))) h.after (record {
      groups = differences group_number model.groups plan.exchange.groups.items h.changes.groups
          h.groups;
      rows = differences row_number model.rows plan.exchange.rows.items h.changes.rows h.rows;
      objective = old_objective model.objective (exchanged plan.exchange model).objective
          plan.exchange.objective (subst (λ m. IsOldObjective m.objective model.objective
          plan.exchange.objective) (sym h.after) h.objective);
      next = refl;
    })

-- what a plan's exchange leaves leads back
pub undo_left : (model target old new : ModelValue) (plan : EditPlan) (undo : Undo)
    → LeadsToTarget model target plan → old ≡ model → new ≡ exchanged plan.exchange old
    → undo ≡ standing old (contents plan.exchange) → IsUndo model new undo
undo_left model target old new plan undo h same after left =
    let is : new ≡ target = after ∙ (ap (exchanged plan.exchange) same ∙ h.after) in
    let was : undo ≡ standing model (contents plan.exchange) =
    left ∙ ap (λ m. standing m (contents plan.exchange)) same in
    subst (λ m. IsUndo model m undo) (sym is) (subst (IsUndo model target) (sym was)
    (undo_of model target plan h))
