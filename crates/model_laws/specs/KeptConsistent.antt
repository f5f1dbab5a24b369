-- Each edit that is not refused keeps a model consistent.
use Rattle.std.specs.Prelude.{◌≡◌, ℕ, false, List, [], Some, None, map, refl}
use Rattle.std.specs.List.{list_any}
use Rattle.std.proofs.Common.{sym, subst, inl, inr}
use Rattle.std.proofs.lemmas.Bool.{or_parts}
use Rattle.aff_core.specs.Function.{Function, with_coefficient}
use Rattle.set_core.specs.declared.set.Set.{Set}
use Rattle.set_core.specs.declared.set.Set.TheVariants.{Reals}
use Rattle.user_model.specs.declared.edit.Edit.{Edit}
use Rattle.user_model.specs.declared.edit.Edit.TheVariants as edit
use Rattle.user_model.specs.declared.function.UserFunc.{UserFunc}
use Rattle.user_model.specs.declared.objective.Objective.TheVariants as objective
use Rattle.user_model.specs.declared.row.Row.{Row}
use Rattle.user_model.specs.Model.{ModelValue, address_named, row_named, variable_named}
use Rattle.user_model.specs.Deletion.{without_variable}
use Rattle.user_model.specs.Edited.{change_function, change_group, edited, located, objective_of, on_affine, on_objective, on_output, renamed, with_constant, with_variable}
use Rattle.user_model.specs.Refusals.{first_refusal, has_twins, has_variable_named, meets_unknown_name, meets_name_taken}
use Rattle.user_model.specs.Consistent.{IsConsistent}
use Rattle.model_laws.specs.Passed.{passed}
use Rattle.model_laws.specs.Located.{free_row, free_variable, variable_located}
use Rattle.model_laws.specs.Changed.{change_group-found}
use Rattle.model_laws.specs.KeptGroups.{kept_renamed}
use Rattle.model_laws.specs.KeptDeletion.{kept_without_variable}
use Rattle.model_laws.specs.KeptAdditions.{kept_add_group, kept_add_row}
use Rattle.model_laws.specs.Needed.{located_stands, needed_row_there, needed_variable}
use Rattle.model_laws.specs.ByName.{consistent_delete, consistent_group, consistent_objective, consistent_row, function_change, of_group, of_number}
use Rattle.model_laws.specs.KeptShapes.{HasShapeOf, affine_shape, output_shape}

module _ (model : ModelValue) (c : IsConsistent model) where
  consistent_rename : (name new : List ℕ) (n : ℕ) → variable_named model name ≡ Some n
      → has_variable_named model new ≡ false
      → IsConsistent (change_group model n (λ g. record g { vars = map (renamed n new) g.vars }))
  consistent_rename name new n at free =
      of_group model c name n at IsConsistent (λ g. record g { vars = map (renamed n new) g.vars })
      (λ group found.
      let var = variable_located model name n group c at found in
      subst IsConsistent (sym (change_group-found model n
      (λ g. record g { vars = map (renamed n new) g.vars }) group found))
      (kept_renamed model c group var.1.by_number n new var.0 var.1.there var.1.number
      (free_variable model new free)))

  -- a row with another function of the same shape, and a group with another set
  function_kept : (name : List ℕ) → (row : Row) × (row_named model name ≡ Some row)
      → (h : UserFunc → UserFunc) → ((func : UserFunc) → HasShapeOf func (h func))
      → IsConsistent (change_function model name h)
  function_kept name at h shape =
      consistent_row model c name at.0 at.1 (λ r. record r { func = h r.func })
      (function_change model c name at.0 at.1 h (shape at.0.func).variable)

  set_kept : (name : List ℕ) → (n : ℕ) × (variable_named model name ≡ Some n) → (set : Set)
      → IsConsistent (with_variable model name
      (λ n. change_group model n (λ g. record g { set = set })))
  set_kept name at set =
      of_number model c name at.0 at.1 IsConsistent
      (λ n. change_group model n (λ g. record g { set = set }))
      (consistent_group model c name at.0 at.1 (λ g. record g { set = set }) (λ g. refl)
      (λ g. refl))

  kept_by : (e : Edit) → meets_unknown_name model e ≡ false → meets_name_taken model e ≡ false
      → IsConsistent (edited model e)
  unfolding edited
  kept_by (edit.AddGroup names set) known free =
      let parts = or_parts (list_any (has_variable_named model) names) (has_twins names) free in
      kept_add_group model names set c parts.0 parts.1
  kept_by (edit.AddRow name func set) known free =
      kept_add_row model name (located model func) set c free
      (located_stands model func (or_parts _ _ known).0)
  kept_by (edit.Objective sense func) known free =
      consistent_objective model c (objective_of model sense func)
  kept_by edit.Feasibility known free = consistent_objective model c objective.Feasibility
  kept_by (edit.Coef row var value) known free =
      let g = λ (f : Function). with_coefficient f (address_named model var) value in
      function_kept row (needed_row_there model (edit.Coef row var value) row refl known)
      (on_affine g) (affine_shape g)
  kept_by (edit.VecCoef row output var value) known free =
      let g = λ (f : Function). with_coefficient f (address_named model var) value in
      function_kept row (needed_row_there model (edit.VecCoef row output var value) row refl known)
      (on_output output g) (output_shape output g)
  kept_by (edit.ObjCoef var value) known free = consistent_objective model c
      (on_objective (λ f. with_coefficient f (address_named model var) value) model.objective)
  kept_by (edit.Constant row value) known free =
      let g = λ (f : Function). with_constant f value in
      function_kept row (needed_row_there model (edit.Constant row value) row refl known)
      (on_affine g) (affine_shape g)
  kept_by (edit.VecConstant row output value) known free =
      let g = λ (f : Function). with_constant f value in
      function_kept row (needed_row_there model (edit.VecConstant row output value) row refl known)
      (on_output output g) (output_shape output g)
  kept_by (edit.ObjConstant value) known free =
      consistent_objective model c (on_objective (λ f. with_constant f value) model.objective)
  kept_by (edit.RowSet row set) known free =
      let at = needed_row_there model (edit.RowSet row set) row refl known in
      consistent_row model c row at.0 at.1 (λ r. record r { set = set })
      (record { id = refl; named = inl refl; bounds = λ n e. e })
  kept_by (edit.Reset var set) known free =
      set_kept var (needed_variable model (edit.Reset var set) var [] refl known) set
  kept_by (edit.FreeGroup var) known free =
      set_kept var (needed_variable model (edit.FreeGroup var) var [] refl known) (Reals 1)
  kept_by (edit.DeleteVariable var) known free =
      let at = needed_variable model (edit.DeleteVariable var) var [] refl known in
      of_number model c var at.0 at.1 IsConsistent (without_variable model)
      (kept_without_variable model at.0 c)
  kept_by (edit.DeleteRow row) known free =
      let at = needed_row_there model (edit.DeleteRow row) row refl known in
      consistent_delete model c row at.0 at.1
  kept_by (edit.RenameVariable old new) known free =
      let at = needed_variable model (edit.RenameVariable old new) old [] refl known in
      of_number model c old at.0 at.1 IsConsistent (λ n. change_group model n
      (λ g. record g { vars = map (renamed n new) g.vars }))
      (consistent_rename old new at.0 at.1 free)
  kept_by (edit.RenameRow old new) known free =
      let at = needed_row_there model (edit.RenameRow old new) old refl known in
      consistent_row model c old at.0 at.1 (λ r. record r { name = new })
      (record { id = refl; named = inr (free_row model new free); bounds = λ n e. e })

pub kept_consistent : (model : ModelValue) (e : Edit) → IsConsistent model
    → first_refusal model e ≡ None → IsConsistent (edited model e)
kept_consistent model e c none = let p = passed model e none in kept_by model c e p.known p.free
