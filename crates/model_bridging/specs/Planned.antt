-- How a user's model is planned: as its fresh bridging holds it, or not at all.
use Rattle.std.specs.Prelude.{◌≡◌, true, List, Some, Result, Ok, Err, filter, map}
use Rattle.aff_core.specs.Address.{Address}
use Rattle.bridge_face.specs.Law.{expressed}
use Rattle.bridge_plan.specs.AddsHeld.{kept_of}
use Rattle.expansion.specs.Read.{model_leaves, model_nodes}
use Rattle.fresh_bridging.specs.Entries.{is_kept}
use Rattle.fresh_bridging.specs.FreshBridging.{FreshBridging, IsUnsupported, expression_of, is_made, unfit_at}
use Rattle.fresh_bridging.specs.TheRules.{Setting}
use Rattle.user_model.specs.Model.{ModelValue, variable_address, variables}
use Rattle.model_bridging.specs.declared.fault.PushFault.{PushFault}
use Rattle.model_bridging.specs.declared.fault.PushFault.TheVariants.{Unsupported, Overflow, Memory}
use Rattle.model_bridging.specs.declared.model_plan.ModelPlan.{ModelPlan}

-- the addresses of the user's variables, in their order
abbrev pub variables_of_the_model : ModelValue → List Address
variables_of_the_model model = map (λ v. variable_address v.number) (variables model)

-- those of them for which a variable stands as it is
abbrev pub kept_variables : {setting : Setting} {model : ModelValue} → FreshBridging setting model
    → List Address
kept_variables {model = model} bridging =
    filter (λ v. is_kept (expression_of bridging v)) (variables_of_the_model model)

-- the plan has the leaves and the nodes of the fresh bridging, whose numbers all fit, in its order,
-- each of the user's variables with its expression as a function, and those that are kept
pub record IsPlanOf (setting : Setting) (model : ModelValue) (planned : ModelPlan) : Type 0 where
  pub bridging : FreshBridging setting model
  pub made : is_made bridging ≡ true
  pub leaves : planned.plan.leaves.items ≡ model_leaves bridging.made
  pub nodes : planned.plan.nodes.items ≡ map kept_of (model_nodes bridging.made)
  pub exprs :
      planned.exprs.items
      ≡ map (λ v. (v, expressed (expression_of bridging v))) (variables_of_the_model model)
  pub kept : planned.kept.items ≡ kept_variables bridging

-- the fresh bridging exists and its numbers fit; or the first of the user's items without a tree is
-- of the kind; or it exists, and a number doesn't fit first at or below the item of the address; or
-- memory runs out
abbrev pub Planned : Setting → ModelValue → Result ModelPlan PushFault → Type 0
Planned setting model (Ok planned) = IsPlanOf setting model planned
Planned setting model (Err (Unsupported kind)) = IsUnsupported setting model kind
Planned setting model (Err (Overflow at)) =
    (bridging : FreshBridging setting model) × (unfit_at bridging ≡ Some at)
Planned setting model (Err Memory) = Unit {0}
