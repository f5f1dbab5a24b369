use Rattle.std.proofs.Common.{◌≡◌, Some, ap, sym, ◌∙◌}
use Rattle.aff_core.specs.Function.{with_coefficient}
use Rattle.user_model.specs.declared.edit.Edit.TheVariants as edit
use Rattle.user_model.specs.Functions.{term_count}
use Rattle.user_model.specs.Model.{total_terms, variable_named}
use Rattle.model_refusals.specs.Changes.{with_change}
use Rattle.model_refusals.proofs.Firsts.{first_full}
use Rattle.model_refusals.proofs.FirstRefusals.{obj_coef_full}
use Rattle.model_refusals.proofs.objective_edits.coef.Goals as goal

pub returns-in-Some : goal.returns-in-Some
returns-in-Some c =
    let model = c.args.model.now.model in
    let value = c.args.value.now in
    let func = c.in-Affine.func in
    let named : variable_named model c.args.var.now ≡ Some c.in_ok-var.var.number =
    ap (variable_named model) (sym c.in_ok-var.ensures.0) ∙ c.in_ok-var.ensures.1 in
    let full = c.full_by_change.ensures
    ∙ ap (λ at. first_full (with_change (total_terms model) (term_count func)
    (term_count (with_coefficient func at value)))) c.address.ensures in
    obj_coef_full model c.args.var.now c.in_ok-var.var.number value named c.in-Affine.sense func
    (sym c.objective.ensures.value ∙ c.in-Affine.is) ∙ (sym full ∙ c.in-Some.is)

pub returns-in-None : goal.returns-in-None
returns-in-None c =
    let model = c.args.model.now.model in
    let value = c.args.value.now in
    let func = c.in-Affine.func in
    let named : variable_named model c.args.var.now ≡ Some c.in_ok-var.var.number =
    ap (variable_named model) (sym c.in_ok-var.ensures.0) ∙ c.in_ok-var.ensures.1 in
    let full = c.full_by_change.ensures
    ∙ ap (λ at. first_full (with_change (total_terms model) (term_count func)
    (term_count (with_coefficient func at value)))) c.address.ensures in
    let is = sym c.objective.ensures.value ∙ c.in-Affine.is in (
      obj_coef_full model c.args.var.now c.in_ok-var.var.number value named
          c.in-Affine.sense func is
          ∙ (sym full ∙ c.in-None.is),
      ap (λ var. edit.ObjCoef var value) c.in_ok-var.ensures.0,
      (is, c.in_ok-var.ensures.1),
    )
