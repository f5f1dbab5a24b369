-- What is kept of each variable of a model: its group, and how many plain rows bound it.
use Rattle.std.specs.Prelude.{◌≡◌, ℕ, ◌+◌, ◌≤◌, ◌==◌, Bool, false, cond, List, Option, Some, None, count_by, unwrap_or, is_some, if◌then◌else◌}
use Rattle.std.specs.Option.{option_map, option_map_or}
use Rattle.numbered_list.specs.Numbered as numbered
use Rattle.numbered_list.specs.Numbered.{Rise}
use Rattle.user_model.specs.declared.row.Row.{Row}
use Rattle.user_model.specs.Model.{ModelValue, bounds_above, bounds_below, group_of, is_variable}
use Rattle.user_model.specs.Sets.{sets_lower, sets_upper}
use Rattle.model_catalog.specs.declared.index.Bounds.{Bounds}
use Rattle.model_catalog.specs.declared.names.NameChange.{NameChange}
use Rattle.model_catalog.specs.declared.variable.Variable.{Variable}
use Rattle.model_catalog.specs.Names.{listed_number}

abbrev pub variable_number : Variable → ℕ
variable_number variable = variable.number

-- how many rows bound the variable from below, and from above
abbrev pub lower_count : ℕ → List Row → ℕ
lower_count n rows = count_by (bounds_below n) rows

abbrev pub upper_count : ℕ → List Row → ℕ
upper_count n rows = count_by (bounds_above n) rows

-- the number of the group of the variable with a number
abbrev pub group_number_of : ModelValue → ℕ → Option ℕ
group_number_of model n = option_map (λ g. g.id) (group_of model n)

-- what is kept of the variable with a number in a group, where these rows stand
abbrev pub kept_as : List Row → ℕ → ℕ → Variable
kept_as rows n id =
    record { number = n; group = id; lower = lower_count n rows; upper = upper_count n rows }

-- what is kept of the variable with a number
abbrev pub kept_of : ModelValue → ℕ → Option Variable
kept_of model n = option_map (kept_as model.rows n) (group_number_of model n)

-- the variables of the model are kept, in the order of their numbers, and no others
pub record IsIndexOf (model : ModelValue) (kept : List Variable) : Type 0 where
  pub rising : Rise variable_number kept
  pub entries : (n : ℕ) → numbered.find variable_number n kept ≡ kept_of model n

-- ---- changes of what is kept

-- a variable that no row bounds yet
abbrev pub unbounded_in : ℕ → ℕ → Variable
unbounded_in group n = record { number = n; group = group; lower = 0; upper = 0 }

-- what stands at a listed number, where the variable was kept or wasn't: itself, or a new one in
-- the group, or nothing
abbrev pub given_variable : ℕ → NameChange → Option Variable → Option Variable
given_variable group l was =
    if is_some l.name then Some (unwrap_or was (unbounded_in group l.number)) else None

-- the variable with a number, where those that are listed with a name stand, new ones in the group,
-- and those without don't
abbrev pub listed_in : ℕ → List NameChange → (ℕ → Option Variable) → ℕ → Option Variable
listed_in group listed kept n =
    option_map_or (λ l. given_variable group l (kept n))
    (numbered.find listed_number n listed) (kept n)

-- the counts of the rows that bound it
abbrev pub recounted : List Row → Variable → Variable
recounted rows variable = record variable {
  lower = lower_count variable.number rows;
  upper = upper_count variable.number rows;
}

-- each variable that is kept has the counts of these rows
abbrev pub CountsBounds : List Row → List Variable → Type 0
CountsBounds rows kept =
    (n : ℕ) → numbered.find variable_number n kept
    ≡ option_map (recounted rows) (numbered.find variable_number n kept)

-- what an item weighs, and nothing where there is none
abbrev pub weight : {X : Type 0} → (X → ℕ) → Option X → ℕ
weight w item = option_map_or w item 0

-- 1 for a row that passes the test
abbrev pub bound_count : (Row → Bool) → Option Row → ℕ
bound_count test row = weight (λ r. cond (test r) 1 0) row

-- the counts with one row more, or none
abbrev pub counted : Option Row → Variable → Variable
counted row variable = record variable {
  lower = variable.lower + bound_count (bounds_below variable.number) row;
  upper = variable.upper + bound_count (bounds_above variable.number) row;
}

-- the counts are those with the row
abbrev pub AreBoundsCounted : Option Row → Variable → Type 0
AreBoundsCounted row variable =
    (bound_count (bounds_below variable.number) row ≤ variable.lower)
    × (bound_count (bounds_above variable.number) row ≤ variable.upper)

-- the number is that one
abbrev pub is_number : Option ℕ → ℕ → Bool
is_number number n = option_map_or (λ m. m == n) number false

-- the row is there, is the variable with a number that is kept, and sets these bounds, 1 each
pub record SetsBounds (row : Option Row) (kept : List Variable) (bounds : Bounds) : Type 0 where
  pub own : Row
  pub is : row ≡ Some own
  pub number : ℕ
  pub variable : (n : ℕ) → is_variable n own.func ≡ is_number (Some number) n
  pub found : numbered.find variable_number number kept ≡ Some bounds.variable
  pub lower : bounds.lower ≡ cond (sets_lower own.set) 1 0
  pub upper : bounds.upper ≡ cond (sets_upper own.set) 1 0

-- how many of the listed numbers are kept
abbrev pub kept_count : List Variable → List NameChange → ℕ
kept_count kept listed =
    count_by (λ l. is_some (numbered.find variable_number l.number kept)) listed
