-- What every model is that edits lead to.
use Rattle.std.specs.Prelude.{◌≡◌, ℕ, ◌+◌, ◌≤◌, Bool, true, false, ◌&&◌, cond, List, All, IsSome, find, count_by, length}
use Rattle.std.specs.Option.{option_map_or}
use Rattle.aff_core.specs.Address.{Address}
use Rattle.set_core.specs.declared.set.Set.{Set}
use Rattle.user_model.specs.declared.group.Group.{Group}
use Rattle.user_model.specs.declared.objective.Objective.{Objective}
use Rattle.user_model.specs.declared.row.Row.{Row}
use Rattle.user_model.specs.Sets.{sets_lower, sets_upper}
use Rattle.set_core.specs.Shapes.{IsSetOf, is_scalar}
use Rattle.user_model.specs.Functions.{components, func_mentions, is_scalar_function, term_counts}
use Rattle.user_model.specs.Limits.{COMPONENTS, TERMS}
use Rattle.user_model.specs.Model.{ModelValue, has_variable, is_variable, objective_mentions, objective_terms, variable_address}
use Rattle.user_model.specs.Consistent.{IsConsistent, IsWithinLimits}

-- a variable of the groups stands at the address
pub record Stands (groups : List Group) (at : Address) : Type 0 where
  pub number : ℕ
  pub address : at ≡ variable_address number
  pub group : IsSome (find (has_variable number) groups)

-- the creation set is one for the variables, which are no more than there may be
pub record IsValidGroup (group : Group) : Type 0 where
  pub limit : length group.vars ≤ COMPONENTS
  pub set : IsSetOf (length group.vars) group.set

-- the variables of the function stand, its components and terms are no more than they may be, and
-- the set is one of numbers for a scalar function and of vectors for another, and for its
-- components
pub record IsValidRow (groups : List Group) (row : Row) : Type 0 where
  pub stand : (at : Address) → func_mentions at row.func ≡ true → Stands groups at
  pub limit : components row.func ≤ COMPONENTS
  pub terms : All (λ count. count ≤ TERMS) (term_counts row.func)
  pub shape : is_scalar row.set ≡ is_scalar_function row.func
  pub set : IsSetOf (components row.func) row.set

pub record IsValidObjective (groups : List Group) (objective : Objective) : Type 0 where
  pub stand : (at : Address) → objective_mentions at objective ≡ true → Stands groups at
  pub terms : objective_terms objective ≤ TERMS

-- the creation set of the variable passes the test
abbrev pub is_created_by : (Set → Bool) → List Group → ℕ → Bool
is_created_by test groups n = option_map_or (λ g. test g.set) (find (has_variable n) groups) false

-- how many of the variable's creation set and of the plain rows on it pass the test
abbrev pub bound_count : (Set → Bool) → List Group → List Row → ℕ → ℕ
bound_count test groups rows n =
    count_by (λ r. is_variable n r.func && test r.set) rows + cond (is_created_by test groups n) 1 0

-- groups, rows and the objective are valid, and a variable has at most one lower and one upper
-- bound
pub record HasValidParts (groups : List Group) (rows : List Row)
    (objective : Objective) : Type 0 where
  pub valid_groups : All IsValidGroup groups
  pub valid_rows : All (IsValidRow groups) rows
  pub valid_objective : IsValidObjective groups objective
  pub lower : (n : ℕ) → bound_count sets_lower groups rows n ≤ 1
  pub upper : (n : ℕ) → bound_count sets_upper groups rows n ≤ 1

-- numbers and names are in order, no limit is passed, and each part is valid
pub record IsValid (model : ModelValue) : Type 0 where
  pub consistent : IsConsistent model
  pub within : IsWithinLimits model
  pub parts : HasValidParts model.groups model.rows model.objective
