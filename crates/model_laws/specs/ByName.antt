-- Changes by name that keep a model consistent and within its limits.
use Rattle.std.specs.Prelude.{◌≡◌, ℕ, ◌≤◌, List, Some, refl}
use Rattle.std.proofs.Common.{arith, sym, subst, inl, ◌∙◌}
use Rattle.user_model.specs.declared.function.UserFunc.{UserFunc}
use Rattle.user_model.specs.declared.group.Group.{Group}
use Rattle.user_model.specs.declared.objective.Objective.{Objective}
use Rattle.user_model.specs.declared.row.Row.{Row}
use Rattle.user_model.specs.Functions.{all_terms}
use Rattle.user_model.specs.Limits.{ALL_TERMS}
use Rattle.user_model.specs.Model.{ModelValue, group_of, is_variable, row_named, total_terms, variable_named}
use Rattle.user_model.specs.Edited.{change_group, change_row, delete_row, with_variable}
use Rattle.user_model.specs.Consistent.{IsConsistent, IsWithinLimits}
use Rattle.model_laws.specs.Changed.{change_group-found, change_row-found, delete_row-found, with_variable-found}
use Rattle.model_laws.specs.Located.{group_by_number, named_stands, row_by_number}
use Rattle.model_laws.specs.KeptRows.{IsRowChange, kept_row, row_terms, row_within, kept_without_row, without_row_within}
use Rattle.model_laws.specs.KeptGroups.{kept_group, group_within}
use Rattle.model_laws.specs.Found.{something}

module _ (model : ModelValue) (c : IsConsistent model) where
  -- a row that is found by name
  module _ (name : List ℕ) (row : Row) (found : row_named model name ≡ Some row) where
    -- changes of its function that leave it on the variable it is on
    pub function_change : (h : UserFunc → UserFunc)
        → ((n : ℕ) → is_variable n (h row.func) ≡ is_variable n row.func)
        → IsRowChange model row (record row { func = h row.func })
    function_change h same =
        record { id = refl; named = inl refl; bounds = λ n e. sym (same n) ∙ e }

    pub consistent_row : (h : Row → Row) → IsRowChange model row (h row)
        → IsConsistent (change_row model name h)
    consistent_row h change =
        subst IsConsistent (sym (change_row-found model name h row found))
        (kept_row model c row (h row) (row_by_number model name row c found) change)

    pub within_row : (h : Row → Row) → IsRowChange model row (h row) → IsWithinLimits model
        → total_terms (change_row model name h) ≤ ALL_TERMS
        → IsWithinLimits (change_row model name h)
    within_row h change w =
        subst (λ m. total_terms m ≤ ALL_TERMS → IsWithinLimits m)
        (sym (change_row-found model name h row found))
        (row_within model c row (h row) (row_by_number model name row c found) change w)

    -- a row with no more terms
    pub within_less : (h : Row → Row) → IsRowChange model row (h row) → IsWithinLimits model
        → all_terms (h row).func ≤ all_terms row.func → IsWithinLimits (change_row model name h)
    within_less h change w less =
        let terms = w.terms in
        let new = row_terms model c row (h row) (row_by_number model name row c found) change in
        subst IsWithinLimits (sym (change_row-found model name h row found))
        (row_within model c row (h row) (row_by_number model name row c found) change w
        (omega (arith, terms, new, less)))

    pub consistent_delete : IsConsistent (delete_row model name)
    consistent_delete = subst IsConsistent (sym (delete_row-found model name row found))
        (kept_without_row model c row.id)

    pub within_delete : IsWithinLimits model → IsWithinLimits (delete_row model name)
    within_delete w = subst IsWithinLimits (sym (delete_row-found model name row found))
        (without_row_within model c row.id w)

  -- a variable that is found by name
  module _ (name : List ℕ) (n : ℕ) (found : variable_named model name ≡ Some n) where
    -- what holds of the model that its number gives
    pub of_number : (P : ModelValue → Type 0) (h : ℕ → ModelValue) → P (h n)
        → P (with_variable model name h)
    of_number P h = subst P (sym (with_variable-found model name h n found))

    -- what holds of the model with its group changed
    pub of_group : (P : ModelValue → Type 0) (h : Group → Group)
        → ((group : Group) → group_of model n ≡ Some group → P (change_group model n h))
        → P (change_group model n h)
    of_group P h each =
        let there = something (group_of model n) (named_stands model name n found)
        in each there.0 there.1

    pub consistent_group : (h : Group → Group) → ((group : Group) → (h group).id ≡ group.id)
        → ((group : Group) → (h group).vars ≡ group.vars) → IsConsistent (change_group model n h)
    consistent_group h id vars =
        of_group IsConsistent h (λ group at.
        subst IsConsistent (sym (change_group-found model n h group at))
        (kept_group model c group (group_by_number model n group c at) (h group) (id group)
        (vars group)))

    pub within_group : (h : Group → Group) → ((group : Group) → (h group).id ≡ group.id)
        → ((group : Group) → (h group).vars ≡ group.vars) → IsWithinLimits model
        → IsWithinLimits (change_group model n h)
    within_group h id vars w =
        of_group IsWithinLimits h (λ group at.
        subst IsWithinLimits (sym (change_group-found model n h group at))
        (group_within model c group (group_by_number model n group c at) (h group) (id group)
        (vars group) w))

  -- another objective
  pub consistent_objective : (o : Objective) → IsConsistent (record model { objective = o })
  consistent_objective o = record {
    groups_rise = c.groups_rise;
    variables_rise = c.variables_rise;
    rows_rise = c.rows_rise;
    given_groups = c.given_groups;
    given_variables = c.given_variables;
    given_rows = c.given_rows;
    variable_names = c.variable_names;
    row_names = c.row_names;
    bounds = c.bounds;
  }

pub within_objective : (model : ModelValue) (o : Objective) → IsWithinLimits model
    → total_terms (record model { objective = o }) ≤ ALL_TERMS
    → IsWithinLimits (record model { objective = o })
within_objective model o w terms = record {
  variables = w.variables;
  rows = w.rows;
  terms = terms;
  group_numbers = w.group_numbers;
  variable_numbers = w.variable_numbers;
  row_numbers = w.row_numbers;
}
