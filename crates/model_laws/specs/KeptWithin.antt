-- Each edit that is not refused keeps a model within its limits.
use Rattle.std.specs.Prelude.{◌≡◌, ℕ, ◌≤◌, false, List, [], ◌∷◌, ◌++◌, Some, None, All, map, refl}
use Rattle.std.proofs.Common.{arith, sym, subst, inl, inr}
use Rattle.std.proofs.lemmas.List.Elements.{All-head, All-tail}
use Rattle.map_laws.specs.EachLaws.{all_second}
use Rattle.aff_core.specs.Function.{with_coefficient}
use Rattle.set_core.specs.declared.set.Set.TheVariants.{Reals}
use Rattle.user_model.specs.declared.edit.Edit.{Edit}
use Rattle.user_model.specs.declared.edit.Edit.TheVariants as edit
use Rattle.user_model.specs.declared.objective.Objective.TheVariants as objective
use Rattle.user_model.specs.Functions.{named_components, term_counts}
use Rattle.user_model.specs.Limits.{TERMS}
use Rattle.user_model.specs.Model.{ModelValue, address_named, variable_named}
use Rattle.user_model.specs.Deletion.{without_variable}
use Rattle.user_model.specs.Edited.{change_group, edited, located, objective_of, on_affine, on_objective, on_output, renamed, with_constant}
use Rattle.user_model.specs.Refusals.{counts, first_refusal, meets_unknown_name, meets_name_taken, terms_of_objective, terms_of_row, within}
use Rattle.user_model.specs.Consistent.{IsConsistent, IsWithinLimits}
use Rattle.model_laws.specs.Passed.{passed}
use Rattle.model_laws.specs.Located.{free_row, variable_located}
use Rattle.model_laws.specs.Changed.{change_group-found}
use Rattle.model_laws.specs.KeptGroups.{renamed_within}
use Rattle.model_laws.specs.KeptDeletion.{without_variable_within}
use Rattle.model_laws.specs.KeptAdditions.{add_group_within, add_row_within}
use Rattle.model_laws.specs.Needed.{needed_row_there, needed_variable}
use Rattle.model_laws.specs.Terms.{affine_terms, constant_adds_none, objective_change_terms, output_terms}
use Rattle.model_laws.specs.KeptShapes.{affine_shape, output_shape}
use Rattle.model_laws.specs.ByName.{function_change, of_group, of_number, within_delete, within_group, within_less, within_objective, within_row}

abbrev IsLimited : ℕ × ℕ → Type 0
IsLimited c = c.0 ≤ c.1

-- the count after the counts of terms is at most its limit
after_terms : (terms : List ℕ) (count : ℕ × ℕ) (others : List (ℕ × ℕ))
    → All IsLimited (within TERMS terms ++ count ∷ others) → IsLimited count
after_terms terms count others h =
    All-head IsLimited count others (all_second IsLimited (within TERMS terms) (count ∷ others) h)

module _ (model : ModelValue) (c : IsConsistent model) (w : IsWithinLimits model) where
  within_rename : (name new : List ℕ) (n : ℕ) → variable_named model name ≡ Some n
      → IsWithinLimits (change_group model n (λ g. record g { vars = map (renamed n new) g.vars }))
  within_rename name new n at =
      of_group model c name n at IsWithinLimits (λ g. record g
      { vars = map (renamed n new) g.vars }) (λ group found.
      let var = variable_located model name n group c at found in
      subst IsWithinLimits (sym (change_group-found model n
      (λ g. record g { vars = map (renamed n new) g.vars }) group found))
      (renamed_within model c group var.1.by_number n new var.0 var.1.there var.1.number w))

  within_by : (e : Edit) → meets_unknown_name model e ≡ false → meets_name_taken model e ≡ false
      → All IsLimited (counts model e) → IsWithinLimits (edited model e)
  unfolding edited
  within_by (edit.AddGroup names set) known free counted =
      add_group_within model names set w (counted 1 (0, 0) (omega arith))
      (counted 2 (0, 0) (omega arith)) (counted 3 (0, 0) (omega arith))
  within_by (edit.AddRow name func set) known free counted =
      let rest = all_second IsLimited (within TERMS (term_counts (located model func))) _
      (All-tail IsLimited (named_components func, _) _ counted) in
      add_row_within model name (located model func) set w (rest 0 (0, 0) (omega arith))
      (rest 1 (0, 0) (omega arith)) (rest 2 (0, 0) (omega arith))
  within_by (edit.Objective sense func) known free counted =
      within_objective model (objective_of model sense func) w
      (after_terms (terms_of_objective (edited model (edit.Objective sense func)).objective) _
      [] counted)
  within_by edit.Feasibility known free counted =
      within_objective model objective.Feasibility w (let all = w.terms in omega (arith, all))
  within_by (edit.Coef row var value) known free counted =
      let at = needed_row_there model (edit.Coef row var value) row refl known in
      let h = on_affine (λ f. with_coefficient f (address_named model var) value) in
      within_row model c row at.0 at.1 (λ r. record r { func = h r.func })
      (function_change model c row at.0 at.1 h (affine_shape
      (λ f. with_coefficient f (address_named model var) value) at.0.func).variable) w
      (after_terms (terms_of_row (edited model (edit.Coef row var value)) row) _ [] counted)
  within_by (edit.VecCoef row output var value) known free counted =
      let at = needed_row_there model (edit.VecCoef row output var value) row refl known in
      let h = on_output output (λ f. with_coefficient f (address_named model var) value) in
      within_row model c row at.0 at.1 (λ r. record r { func = h r.func })
      (function_change model c row at.0 at.1 h (output_shape output
      (λ f. with_coefficient f (address_named model var) value) at.0.func).variable) w
      (after_terms (terms_of_row (edited model (edit.VecCoef row output var value)) row) _ []
      counted)
  within_by (edit.ObjCoef var value) known free counted =
      within_objective model (on_objective (λ f. with_coefficient f (address_named model var) value)
      model.objective) w (after_terms (terms_of_objective
      (edited model (edit.ObjCoef var value)).objective) _ [] counted)
  within_by (edit.Constant row value) known free counted =
      let at = needed_row_there model (edit.Constant row value) row refl known in
      let h = on_affine (λ f. with_constant f value) in
      within_less model c row at.0 at.1 (λ r. record r { func = h r.func })
      (function_change model c row at.0 at.1 h (affine_shape (λ f. with_constant f value)
      at.0.func).variable) w (affine_terms (λ f. with_constant f value) (constant_adds_none value)
      at.0.func)
  within_by (edit.VecConstant row output value) known free counted =
      let at = needed_row_there model (edit.VecConstant row output value) row refl known in
      let h = on_output output (λ f. with_constant f value) in
      within_less model c row at.0 at.1 (λ r. record r { func = h r.func })
      (function_change model c row at.0 at.1 h (output_shape output
      (λ f. with_constant f value) at.0.func).variable) w (output_terms (λ f. with_constant f value)
      (constant_adds_none value) output at.0.func)
  within_by (edit.ObjConstant value) known free counted =
      within_objective model (on_objective (λ f. with_constant f value) model.objective) w
      (let all = w.terms
      in omega (
        arith,
        all,
        objective_change_terms (λ f. with_constant f value)
            (constant_adds_none value) model.objective,
      ))
  within_by (edit.RowSet row set) known free counted =
      let at = needed_row_there model (edit.RowSet row set) row refl known in
      within_less model c row at.0 at.1 (λ r. record r { set = set })
      (record { id = refl; named = inl refl; bounds = λ n e. e }) w (omega arith)
  within_by (edit.Reset var set) known free counted =
      let at = needed_variable model (edit.Reset var set) var [] refl known in
      of_number model c var at.0 at.1 IsWithinLimits
      (λ n. change_group model n (λ g. record g { set = set }))
      (within_group model c var at.0 at.1 (λ g. record g { set = set }) (λ g. refl) (λ g. refl)
      w)
  within_by (edit.FreeGroup var) known free counted =
      let at = needed_variable model (edit.FreeGroup var) var [] refl known in
      of_number model c var at.0 at.1 IsWithinLimits
      (λ n. change_group model n (λ g. record g { set = Reals 1 }))
      (within_group model c var at.0 at.1 (λ g. record g { set = Reals 1 }) (λ g. refl)
      (λ g. refl) w)
  within_by (edit.DeleteVariable var) known free counted =
      let at = needed_variable model (edit.DeleteVariable var) var [] refl known in
      of_number model c var at.0 at.1 IsWithinLimits (without_variable model)
      (without_variable_within model at.0 c w)
  within_by (edit.DeleteRow row) known free counted =
      let at = needed_row_there model (edit.DeleteRow row) row refl known in
      within_delete model c row at.0 at.1 w
  within_by (edit.RenameVariable old new) known free counted =
      let at = needed_variable model (edit.RenameVariable old new) old [] refl known in
      of_number model c old at.0 at.1 IsWithinLimits
      (λ n. change_group model n (λ g. record g { vars = map (renamed n new) g.vars }))
      (within_rename old new at.0 at.1)
  within_by (edit.RenameRow old new) known free counted =
      let at = needed_row_there model (edit.RenameRow old new) old refl known in
      within_less model c old at.0 at.1 (λ r. record r { name = new })
      (record { id = refl; named = inr (free_row model new free); bounds = λ n e. e }) w
      (omega arith)

pub kept_within : (model : ModelValue) (e : Edit) → IsConsistent model → IsWithinLimits model
    → first_refusal model e ≡ None → IsWithinLimits (edited model e)
kept_within model e c w none =
    let p = passed model e none in within_by model c w e p.known p.free p.counted
