-- Which refusal an edit meets: the first whose test holds, in this order.
use Rattle.std.specs.Prelude.{◌≡◌, ℕ, ◌+◌, ◌-◌, Bool, true, false, ◌&&◌, ◌||◌, not, ◌==◌, nat_lt, if◌then◌else◌, List, [], ◌∷◌, ◌++◌, length, map, Option, Some, None, is_some}
use Rattle.std.specs.List.{list_any}
use Rattle.std.specs.Option.{option_map_or}
use Rattle.std.specs.Str.{bytes_eq}
use Rattle.aff_core.specs.Address.{address_eq}
use Rattle.set_core.specs.declared.set.Set.{Set}
use Rattle.user_model.specs.declared.function.UserFunc.{UserFunc}
use Rattle.user_model.specs.declared.function.UserFunc.TheVariants.{PlainVec}
use Rattle.user_model.specs.declared.edit.NamedFunc.{NamedFunc}
use Rattle.user_model.specs.declared.edit.NamedFunc.TheVariants as named
use Rattle.user_model.specs.declared.edit.Edit.{Edit}
use Rattle.user_model.specs.declared.edit.Edit.TheVariants as edit
use Rattle.user_model.specs.declared.group.Group.{Group}
use Rattle.user_model.specs.declared.row.Row.{Row}
use Rattle.user_model.specs.declared.objective.Objective.{Objective}
use Rattle.user_model.specs.declared.objective.Objective.TheVariants as objective
use Rattle.user_model.specs.declared.refusal.Refusal.{Refusal}
use Rattle.user_model.specs.declared.refusal.Refusal.TheVariants.{UnknownName, NameTaken, FunctionShape, BadDimension, OutputIndex, BadInterval, LowerBoundAlreadySet, UpperBoundAlreadySet, SetTypeMismatch, DeleteNotAllowed, Full}
use Rattle.user_model.specs.Sets.{sets_lower, sets_upper}
use Rattle.set_core.specs.Shapes.{has_bad_dimension, is_crossed, is_norm_cone, is_scalar, same_type}
use Rattle.user_model.specs.Functions.{components, is_scalar_affine, is_scalar_function, is_scalar_named, is_vector_affine, mentioned, named_components, term_counts, term_count}
use Rattle.user_model.specs.Model.{ModelValue, group_of, has_lower_bound, has_upper_bound, row_named, total_terms, variable_address, variable_named, variables}
use Rattle.user_model.specs.Limits.{ALL_TERMS, COMPONENTS, LAST_NUMBER, ROWS, TERMS, VARIABLES}
use Rattle.user_model.specs.Edited.{edited, located}

-- ---- 2: names that the edit needs

-- the variables that the edit needs
abbrev pub needed_variables : Edit → List (List ℕ)
needed_variables (edit.AddRow name func set) = mentioned func
needed_variables (edit.Objective sense func) = mentioned func
needed_variables (edit.Coef row var value) = var ∷ []
needed_variables (edit.VecCoef row output var value) = var ∷ []
needed_variables (edit.ObjCoef var value) = var ∷ []
needed_variables (edit.Reset var set) = var ∷ []
needed_variables (edit.FreeGroup var) = var ∷ []
needed_variables (edit.DeleteVariable var) = var ∷ []
needed_variables (edit.RenameVariable old new) = old ∷ []
needed_variables _ = []

-- the row that the edit needs
abbrev pub needed_row : Edit → Option (List ℕ)
needed_row (edit.Coef row var value) = Some row
needed_row (edit.VecCoef row output var value) = Some row
needed_row (edit.Constant row value) = Some row
needed_row (edit.VecConstant row output value) = Some row
needed_row (edit.RowSet row set) = Some row
needed_row (edit.DeleteRow row) = Some row
needed_row (edit.RenameRow old new) = Some old
needed_row _ = None

abbrev pub has_variable_named : ModelValue → List ℕ → Bool
has_variable_named model name = is_some (variable_named model name)

abbrev pub has_row_named : ModelValue → List ℕ → Bool
has_row_named model name = is_some (row_named model name)

-- a variable or row that the edit needs isn't there
abbrev pub meets_unknown_name : ModelValue → Edit → Bool
meets_unknown_name model e =
    list_any (λ name. not (has_variable_named model name)) (needed_variables e)
    || option_map_or (λ name. not (has_row_named model name)) (needed_row e) false

-- the variables of the function stand in the model
pub record IsKnown (model : ModelValue) (func : NamedFunc) : Type 0 where
  pub known : list_any (λ name. not (has_variable_named model name)) (mentioned func) ≡ false

-- ---- 3: new names

-- some name stands twice
abbrev pub has_twins : List (List ℕ) → Bool
has_twins [] = false
has_twins (name ∷ names) = list_any (bytes_eq name) names || has_twins names

-- a new name is there already or occurs twice in the edit
abbrev pub meets_name_taken : ModelValue → Edit → Bool
meets_name_taken model (edit.AddGroup names set) =
    list_any (has_variable_named model) names || has_twins names
meets_name_taken model (edit.AddRow name func set) = has_row_named model name
meets_name_taken model (edit.RenameVariable old new) = has_variable_named model new
meets_name_taken model (edit.RenameRow old new) = has_row_named model new
meets_name_taken model _ = false

-- ---- what stands at a name passes a test, or isn't there

abbrev pub row_is : (Row → Bool) → ModelValue → List ℕ → Bool
row_is test model name = option_map_or test (row_named model name) false

abbrev pub group_is : (Group → Bool) → ModelValue → List ℕ → Bool
group_is test model name =
    option_map_or (λ n. option_map_or test (group_of model n) false)
    (variable_named model name) false

-- ---- 4: shapes

abbrev pub is_affine_objective : Objective → Bool
is_affine_objective objective.Feasibility = false
is_affine_objective (objective.Plain sense var) = false
is_affine_objective (objective.Affine sense f) = true

-- a scalar function meets a vector set, or a vector function a scalar one
abbrev pub differ : Bool → Bool → Bool
differ scalar_function scalar_set = if scalar_function then not scalar_set else scalar_set

abbrev pub meets_function_shape : ModelValue → Edit → Bool
meets_function_shape model (edit.AddGroup names set) = is_scalar set && not (length names == 1)
meets_function_shape model (edit.AddRow name func set) =
    differ (is_scalar_named func) (is_scalar set)
meets_function_shape model (edit.Objective sense func) = not (is_scalar_named func)
meets_function_shape model (edit.Coef row var value) =
    row_is (λ r. not (is_scalar_affine r.func)) model row
meets_function_shape model (edit.VecCoef row output var value) =
    row_is (λ r. not (is_vector_affine r.func)) model row
meets_function_shape model (edit.ObjCoef var value) = not (is_affine_objective model.objective)
meets_function_shape model (edit.Constant row value) =
    row_is (λ r. not (is_scalar_affine r.func)) model row
meets_function_shape model (edit.VecConstant row output value) =
    row_is (λ r. not (is_vector_affine r.func)) model row
meets_function_shape model (edit.ObjConstant value) = not (is_affine_objective model.objective)
meets_function_shape model (edit.RowSet row set) =
    row_is (λ r. differ (is_scalar_function r.func) (is_scalar set)) model row
meets_function_shape model (edit.Reset var set) =
    not (is_scalar set) || group_is (λ g. not (is_scalar g.set)) model var
meets_function_shape model (edit.FreeGroup var) = group_is (λ g. not (is_scalar g.set)) model var
meets_function_shape model _ = false

-- ---- 5 to 7, 10: sets

-- a new vector set's dimension isn't the number of components, is 0, or is 1 for a norm cone
abbrev pub meets_bad_dimension : ModelValue → Edit → Bool
meets_bad_dimension model (edit.AddGroup names set) = has_bad_dimension set (length names)
meets_bad_dimension model (edit.AddRow name func set) =
    has_bad_dimension set (named_components func)
meets_bad_dimension model (edit.RowSet row set) =
    row_is (λ r. has_bad_dimension set (components r.func)) model row
meets_bad_dimension model _ = false

-- the output and the row that it is to be one of
abbrev pub output_in : Edit → Option (List ℕ × ℕ)
output_in (edit.VecCoef row output var value) = Some (row, output)
output_in (edit.VecConstant row output value) = Some (row, output)
output_in _ = None

-- an output is 0 or above the row's number of components
abbrev pub meets_output_index : ModelValue → Edit → Bool
meets_output_index model e =
    option_map_or (λ at. row_is (λ r. at.1 == 0 || nat_lt (components r.func) at.1) model at.0)
    (output_in e) false

-- the set that the edit gives
abbrev pub given_set : Edit → Option Set
given_set (edit.AddGroup names set) = Some set
given_set (edit.AddRow name func set) = Some set
given_set (edit.RowSet row set) = Some set
given_set (edit.Reset var set) = Some set
given_set _ = None

abbrev pub meets_bad_interval : Edit → Bool
meets_bad_interval e = option_map_or is_crossed (given_set e) false

abbrev pub meets_set_type_mismatch : ModelValue → Edit → Bool
meets_set_type_mismatch model (edit.RowSet row set) =
    row_is (λ r. not (same_type r.set set)) model row
meets_set_type_mismatch model (edit.Reset var set) =
    group_is (λ g. not (same_type g.set set)) model var
meets_set_type_mismatch model _ = false

-- ---- 8 and 9: bounds

-- the variable and the set of a new plain scalar row
abbrev pub new_bound : Edit → Option (List ℕ × Set)
new_bound (edit.AddRow name (named.Plain var) set) = Some (var, set)
new_bound _ = None

abbrev pub meets_bound_already_set : (Set → Bool) → (ModelValue → ℕ → Bool) → ModelValue → Edit
    → Bool
meets_bound_already_set sets has_bound model e =
    option_map_or (λ bound. sets bound.1
    && option_map_or (has_bound model) (variable_named model bound.0) false) (new_bound e) false

-- ---- 11: deleting

-- the row is a plain vector row of the variable over a norm cone
abbrev pub is_cone_row_of : ℕ → Row → Bool
is_cone_row_of n row = is_norm_cone row.set && names_in row.func
  where
    names_in : UserFunc → Bool
    names_in (PlainVec vars) = list_any (address_eq (variable_address n)) vars
    names_in _ = false

-- the variable is in a norm-cone group or in a plain vector row over a norm cone
abbrev pub is_in_cone : ModelValue → ℕ → Bool
is_in_cone model n =
    option_map_or (λ g. is_norm_cone g.set) (group_of model n) false
    || list_any (is_cone_row_of n) model.rows

abbrev pub meets_delete_not_allowed : ModelValue → Edit → Bool
meets_delete_not_allowed model (edit.DeleteVariable var) =
    option_map_or (is_in_cone model) (variable_named model var) false
meets_delete_not_allowed model _ = false

-- ---- 12: limits

-- a count as it would be after the edit, and its limit
abbrev pub within : ℕ → List ℕ → List (ℕ × ℕ)
within limit counts = map (λ count. (count, limit)) counts

-- the numbers of terms of the components of the row with a name
abbrev pub terms_of_row : ModelValue → List ℕ → List ℕ
terms_of_row model name = option_map_or (λ r. term_counts r.func) (row_named model name) []

abbrev pub terms_of_objective : Objective → List ℕ
terms_of_objective objective.Feasibility = []
terms_of_objective (objective.Plain sense var) = []
terms_of_objective (objective.Affine sense f) = term_count f ∷ []

-- what the edit adds to, as it would be after the edit: components, terms of a function, variables,
-- rows, all terms, numbers
abbrev pub counts : ModelValue → Edit → List (ℕ × ℕ)
counts model (edit.AddGroup names set) =
    (length names, COMPONENTS) ∷ (length (variables model) + length names, VARIABLES)
    ∷ (model.next.group, LAST_NUMBER)
    ∷ (model.next.variable + length names - 1, LAST_NUMBER) ∷ []
counts model (edit.AddRow name func set) =
    (named_components func, COMPONENTS) ∷ (within TERMS (term_counts (located model func)) ++ (
    (length model.rows + 1, ROWS)
    ∷ (total_terms (edited model (edit.AddRow name func set)), ALL_TERMS)
    ∷ (model.next.row, LAST_NUMBER) ∷ []))
counts model (edit.Objective sense func) =
    within TERMS (terms_of_objective (edited model (edit.Objective sense func)).objective)
    ++ (total_terms (edited model (edit.Objective sense func)), ALL_TERMS) ∷ []
counts model (edit.Coef row var value) =
    within TERMS (terms_of_row (edited model (edit.Coef row var value)) row)
    ++ (total_terms (edited model (edit.Coef row var value)), ALL_TERMS) ∷ []
counts model (edit.VecCoef row output var value) =
    within TERMS (terms_of_row (edited model (edit.VecCoef row output var value)) row)
    ++ (total_terms (edited model (edit.VecCoef row output var value)), ALL_TERMS) ∷ []
counts model (edit.ObjCoef var value) =
    within TERMS (terms_of_objective (edited model (edit.ObjCoef var value)).objective)
    ++ (total_terms (edited model (edit.ObjCoef var value)), ALL_TERMS) ∷ []
counts model _ = []

-- ---- the first refusal

-- the refusal of the first test that holds
abbrev pub first_of : List (Bool × Refusal) → Option Refusal
first_of [] = None
first_of (test ∷ tests) = if test.0 then Some test.1 else first_of tests

-- the count is above its limit
abbrev pub full_at : ℕ × ℕ → Bool × Refusal
full_at count = (nat_lt count.1 count.0, Full count.0 count.1)

-- each test with its refusal, in the order of the refusals
abbrev pub refusal_tests : ModelValue → Edit → List (Bool × Refusal)
refusal_tests model e =
    (meets_unknown_name model e, UnknownName)
    ∷ (meets_name_taken model e, NameTaken)
    ∷ (meets_function_shape model e, FunctionShape)
    ∷ (meets_bad_dimension model e, BadDimension)
    ∷ (meets_output_index model e, OutputIndex)
    ∷ (meets_bad_interval e, BadInterval)
    ∷ (meets_bound_already_set sets_lower has_lower_bound model e, LowerBoundAlreadySet)
    ∷ (meets_bound_already_set sets_upper has_upper_bound model e, UpperBoundAlreadySet)
    ∷ (meets_set_type_mismatch model e, SetTypeMismatch)
    ∷ (meets_delete_not_allowed model e, DeleteNotAllowed)
    ∷ map full_at (counts model e)

unfoldable pub first_refusal : ModelValue → Edit → Option Refusal
first_refusal model e = first_of (refusal_tests model e)
