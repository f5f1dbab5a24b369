use Rattle.std.proofs.Common.{◌≡◌, Some, ap, ap₂, sym, ◌∙◌}
use Rattle.aff_core.specs.Function.{with_coefficient}
use Rattle.user_model.specs.declared.edit.Edit.TheVariants as edit
use Rattle.user_model.specs.Functions.{term_count}
use Rattle.user_model.specs.Model.{row_named, total_terms, variable_named}
use Rattle.model_refusals.specs.Changes.{with_change}
use Rattle.model_refusals.proofs.Firsts.{first_full}
use Rattle.model_refusals.proofs.FirstRefusals.{coef_full}
use Rattle.model_refusals.proofs.Totals.{coef_part}
use Rattle.model_refusals.proofs.row_edits.coef.Goals as goal

pub full_by_change-requires-clause-part : goal.full_by_change-requires-clause-part
full_by_change-requires-clause-part c =
    let row = c.in_ok-row.row in
    coef_part c.args.model.now.model c.requires.consistent row.name.now row.row.now
    c.in_ok-row.ensures.1 c.in-Affine.func c.in-Affine.is c.args.var.now c.args.value.now

pub returns-in-Some : goal.returns-in-Some
returns-in-Some c =
    let model = c.args.model.now.model in
    let value = c.args.value.now in
    let func = c.in-Affine.func in
    let named : variable_named model c.args.var.now ≡ Some c.in_ok-var.var.number =
    ap (variable_named model) (sym c.in_ok-var.ensures.0) ∙ c.in_ok-var.ensures.1 in
    let found : row_named model c.args.row.now ≡ Some c.in_ok-row.row.row.now =
    ap (row_named model) (sym c.in_ok-row.ensures.0) ∙ c.in_ok-row.ensures.1 in
    let full = c.full_by_change.ensures
    ∙ ap (λ at. first_full (with_change (total_terms model) (term_count func)
    (term_count (with_coefficient func at value)))) c.address.ensures in
    coef_full model c.args.row.now c.in_ok-row.row.row.now found c.args.var.now
    c.in_ok-var.var.number named value c.requires.consistent func c.in-Affine.is
    ∙ (sym full ∙ c.in-Some.is)

pub returns-in-None : goal.returns-in-None
returns-in-None c =
    let model = c.args.model.now.model in
    let value = c.args.value.now in
    let func = c.in-Affine.func in
    let named : variable_named model c.args.var.now ≡ Some c.in_ok-var.var.number =
    ap (variable_named model) (sym c.in_ok-var.ensures.0) ∙ c.in_ok-var.ensures.1 in
    let found : row_named model c.args.row.now ≡ Some c.in_ok-row.row.row.now =
    ap (row_named model) (sym c.in_ok-row.ensures.0) ∙ c.in_ok-row.ensures.1 in
    let full = c.full_by_change.ensures
    ∙ ap (λ at. first_full (with_change (total_terms model) (term_count func)
    (term_count (with_coefficient func at value)))) c.address.ensures in (
      coef_full model c.args.row.now c.in_ok-row.row.row.now found c.args.var.now
          c.in_ok-var.var.number named value c.requires.consistent func c.in-Affine.is
          ∙ (sym full ∙ c.in-None.is),
      ap₂ (λ row var. edit.Coef row var value) c.in_ok-row.ensures.0 c.in_ok-var.ensures.0,
      (c.in_ok-row.ensures.1, c.in-Affine.is, c.in_ok-var.ensures.1),
    )
