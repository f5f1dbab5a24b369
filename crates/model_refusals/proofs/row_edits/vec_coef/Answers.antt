use Rattle.std.proofs.Common.{◌≡◌, ◌==◌, false, length, Some, ap, ap₂, sym, ◌∙◌}
use Rattle.std.specs.Prelude.{◌||◌, nat_lt, slice_get}
use Rattle.aff_core.specs.Function.{with_coefficient}
use Rattle.user_model.specs.declared.edit.Edit.TheVariants as edit
use Rattle.user_model.specs.declared.function.UserFunc.TheVariants.{AffineVec}
use Rattle.user_model.specs.Model.{row_named, total_terms, variable_named}
use Rattle.model_refusals.specs.Changes.{with_change_at}
use Rattle.model_refusals.proofs.Firsts.{first_full}
use Rattle.model_refusals.proofs.FirstRefusals.{vec_coef_full}
use Rattle.model_refusals.proofs.Totals.{vec_coef_part}
use Rattle.model_refusals.proofs.row_edits.vec_coef.Goals as goal

pub full_by_component-requires-clause-part : goal.full_by_component-requires-clause-part
full_by_component-requires-clause-part c =
    let row = c.in_ok-row.row in
    let part = c.in-Some.component in
    let told = c.in-Some.ensures in
    vec_coef_part c.args.model.now.model c.requires.consistent row.name.now row.row.now
    c.in_ok-row.ensures.1 part.funcs.now (c.in-AffineVec.is ∙ ap AffineVec (sym told.0))
    c.args.output part.func.now (ap (slice_get part.funcs.now) (sym told.1.1) ∙ told.1.2)
    c.args.var.now c.args.value.now

pub returns-in-Some-full_by_component : goal.returns-in-Some-full_by_component
returns-in-Some-full_by_component c =
    let model = c.args.model.now.model in
    let value = c.args.value.now in
    let part = c.in-Some.component in
    let told = c.in-Some.ensures in
    let named : variable_named model c.args.var.now ≡ Some c.in_ok-var.var.number =
    ap (variable_named model) (sym c.in_ok-var.ensures.0) ∙ c.in_ok-var.ensures.1 in
    let found : row_named model c.args.row.now ≡ Some c.in_ok-row.row.row.now =
    ap (row_named model) (sym c.in_ok-row.ensures.0) ∙ c.in_ok-row.ensures.1 in
    let within : (c.args.output == 0 || nat_lt (length part.funcs.now) c.args.output) ≡ false =
    ap (λ fs. c.args.output == 0 || nat_lt (length fs) c.args.output) told.0 ∙ told.2 in
    let full = c.full_by_component.ensures
    ∙ ap (λ at. first_full (with_change_at (total_terms model) part.funcs.now part.place
    part.func.now (λ f. with_coefficient f at value))) c.address.ensures in
    vec_coef_full model c.args.row.now c.in_ok-row.row.row.now found c.args.var.now
    c.in_ok-var.var.number named value c.requires.consistent part.funcs.now c.args.output
    part.place part.func.now (c.in-AffineVec.is ∙ ap AffineVec (sym told.0)) within told.1.1
    told.1.2 ∙ (sym full ∙ c.in-Some-full_by_component.is)

pub returns-in-None : goal.returns-in-None
returns-in-None c =
    let model = c.args.model.now.model in
    let value = c.args.value.now in
    let part = c.in-Some.component in
    let told = c.in-Some.ensures in
    let named : variable_named model c.args.var.now ≡ Some c.in_ok-var.var.number =
    ap (variable_named model) (sym c.in_ok-var.ensures.0) ∙ c.in_ok-var.ensures.1 in
    let found : row_named model c.args.row.now ≡ Some c.in_ok-row.row.row.now =
    ap (row_named model) (sym c.in_ok-row.ensures.0) ∙ c.in_ok-row.ensures.1 in
    let within : (c.args.output == 0 || nat_lt (length part.funcs.now) c.args.output) ≡ false =
    ap (λ fs. c.args.output == 0 || nat_lt (length fs) c.args.output) told.0 ∙ told.2 in
    let vector = c.in-AffineVec.is ∙ ap AffineVec (sym told.0) in
    let full = c.full_by_component.ensures
    ∙ ap (λ at. first_full (with_change_at (total_terms model) part.funcs.now part.place
    part.func.now (λ f. with_coefficient f at value))) c.address.ensures in (
      vec_coef_full model c.args.row.now c.in_ok-row.row.row.now found c.args.var.now
          c.in_ok-var.var.number named value c.requires.consistent part.funcs.now c.args.output
          part.place part.func.now vector within told.1.1 told.1.2 ∙ (sym full ∙ c.in-None.is),
      ap₂ (λ row var. edit.VecCoef row c.args.output var value) c.in_ok-row.ensures.0
          c.in_ok-var.ensures.0,
      (c.in_ok-row.ensures.1, vector, told.1, c.in_ok-var.ensures.1),
    )
