-- An edit that isn't refused, with what its names name.
use Rattle.std.specs.Prelude.{◌≡◌, ℕ, ◌-◌, ◌<◌, Some, None, Result, MatchResult, slice_get}
use Rattle.user_model.specs.declared.edit.Edit.{Edit}
use Rattle.user_model.specs.declared.edit.Edit.TheVariants as edit
use Rattle.user_model.specs.declared.function.UserFunc.TheVariants.{Affine, AffineVec}
use Rattle.user_model.specs.declared.objective.Objective.TheVariants as objective
use Rattle.user_model.specs.declared.refusal.Refusal.{Refusal}
use Rattle.user_model.specs.Model.{ModelValue, group_of, row_named, variable_named}
use Rattle.user_model.specs.Refusals.{first_refusal}
use Rattle.model_refusals.specs.declared.accepted_edit.AcceptedEdit.{AcceptedEdit}
use Rattle.model_refusals.specs.declared.accepted_edit.AcceptedEdit.TheVariants as accepted
use Rattle.model_refusals.specs.declared.accepted_edit.Component.{Component}
use Rattle.model_refusals.specs.declared.accepted_edit.GroupedVariable.{GroupedVariable}
use Rattle.model_refusals.specs.declared.accepted_edit.NamedRow.{NamedRow}
use Rattle.model_refusals.specs.declared.accepted_edit.NamedVariable.{NamedVariable}

-- the edit that was accepted
abbrev pub edit_of : AcceptedEdit → Edit
edit_of (accepted.AddGroup names set) = edit.AddGroup names.now set.now
edit_of (accepted.AddRow name func set) = edit.AddRow name.now func.now set.now
edit_of (accepted.Objective sense func) = edit.Objective sense func.now
edit_of accepted.Feasibility = edit.Feasibility
edit_of (accepted.Coef row func var value) = edit.Coef row.name.now var.name.now value
edit_of (accepted.VecCoef row output component var value) =
    edit.VecCoef row.name.now output var.name.now value
edit_of (accepted.ObjCoef sense func var value) = edit.ObjCoef var.name.now value
edit_of (accepted.Constant row func value) = edit.Constant row.name.now value
edit_of (accepted.VecConstant row output component value) =
    edit.VecConstant row.name.now output value
edit_of (accepted.ObjConstant sense func value) = edit.ObjConstant value
edit_of (accepted.RowSet row set) = edit.RowSet row.name.now set.now
edit_of (accepted.Reset var set) = edit.Reset var.name.now set.now
edit_of (accepted.FreeGroup var) = edit.FreeGroup var.name.now
edit_of (accepted.DeleteVariable var) = edit.DeleteVariable var.name.now
edit_of (accepted.DeleteRow row) = edit.DeleteRow row.name.now
edit_of (accepted.RenameVariable var new) = edit.RenameVariable var.name.now new.now
edit_of (accepted.RenameRow row new) = edit.RenameRow row.name.now new.now

-- the row is the model's with that name
abbrev pub IsModelRow : ModelValue → NamedRow → Type 0
IsModelRow model row = row_named model row.name.now ≡ Some row.row.now

-- the number is that of the model's variable with that name
abbrev pub IsModelVariable : ModelValue → NamedVariable → Type 0
IsModelVariable model var = variable_named model var.name.now ≡ Some var.number

-- the same, and the group is the variable's
abbrev pub IsGroupedVariable : ModelValue → GroupedVariable → Type 0
IsGroupedVariable model var = (variable_named model var.name.now ≡ Some var.number)
    × (group_of model var.number ≡ Some var.group.now)

-- the component is the function's with this output, counted from 1
abbrev pub IsComponent : ℕ → Component → Type 0
IsComponent output component = (0 < output) × (component.place ≡ output - 1)
    × (slice_get component.funcs.now component.place ≡ Some component.func.now)

-- what the edit found stands in the model
abbrev pub IsFound : ModelValue → AcceptedEdit → Type 0
IsFound model (accepted.Coef row func var value) =
    IsModelRow model row × (row.row.now.func ≡ Affine func.now) × IsModelVariable model var
IsFound model (accepted.VecCoef row output component var value) =
    IsModelRow model row × (row.row.now.func ≡ AffineVec component.funcs.now)
    × IsComponent output component × IsModelVariable model var
IsFound model (accepted.ObjCoef sense func var value) =
    (model.objective ≡ objective.Affine sense func.now) × IsModelVariable model var
IsFound model (accepted.Constant row func value) =
    IsModelRow model row × (row.row.now.func ≡ Affine func.now)
IsFound model (accepted.VecConstant row output component value) =
    IsModelRow model row × (row.row.now.func ≡ AffineVec component.funcs.now)
    × IsComponent output component
IsFound model (accepted.ObjConstant sense func value) =
    model.objective ≡ objective.Affine sense func.now
IsFound model (accepted.RowSet row set) = IsModelRow model row
IsFound model (accepted.Reset var set) = IsGroupedVariable model var
IsFound model (accepted.FreeGroup var) = IsGroupedVariable model var
IsFound model (accepted.DeleteVariable var) = IsGroupedVariable model var
IsFound model (accepted.DeleteRow row) = IsModelRow model row
IsFound model (accepted.RenameVariable var new) = IsGroupedVariable model var
IsFound model (accepted.RenameRow row new) = IsModelRow model row
IsFound model _ = Unit {0}

-- the answer to an edit: where it isn't refused, the edit with what it found, and else the first
-- refusal in their order
abbrev pub IsEditAnswer : ModelValue → Edit → Result AcceptedEdit Refusal → Type 0
IsEditAnswer model e answer = MatchResult answer
    (λ found. (first_refusal model e ≡ None) × (edit_of found ≡ e) × IsFound model found)
    (λ refusal. first_refusal model e ≡ Some refusal)
