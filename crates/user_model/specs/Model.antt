-- The user's model: groups of variables and rows, each in the order of their numbers, an objective,
-- and the next numbers.
use Rattle.std.specs.Prelude.{ℕ, ◌+◌, Bool, ◌&&◌, ◌||◌, ◌==◌, false, List, [], flat_map, find, sum_by, Option, unwrap_or}
use Rattle.std.specs.List.{list_any}
use Rattle.std.specs.Option.{option_map, option_map_or}
use Rattle.std.specs.Str.{bytes_eq}
use Rattle.set_core.specs.declared.set.Set.{Set}
use Rattle.aff_core.specs.Address.{Address, address_eq, root_address}
use Rattle.aff_core.specs.declared.root.Root.TheVariants.{Variable}
use Rattle.user_model.specs.declared.function.UserFunc.{UserFunc}
use Rattle.user_model.specs.declared.function.UserFunc.TheVariants.{Plain, Affine, PlainVec, AffineVec}
use Rattle.user_model.specs.declared.group.Group.{Group}
use Rattle.user_model.specs.declared.group.GroupVar.{GroupVar}
use Rattle.user_model.specs.declared.row.Row.{Row}
use Rattle.user_model.specs.declared.objective.Objective.{Objective}
use Rattle.user_model.specs.declared.objective.Objective.TheVariants as objective
use Rattle.user_model.specs.declared.undo.NextNumbers.{NextNumbers}
use Rattle.user_model.specs.Functions.{all_terms, func_mentions, has_term, term_count}
use Rattle.user_model.specs.Sets.{sets_lower, sets_upper}

pub record ModelValue : Type 0 where
  pub groups : List Group
  pub rows : List Row
  pub objective : Objective
  pub next : NextNumbers

-- no groups, no rows, no objective
abbrev pub empty_model : ModelValue
empty_model = record {
  groups = [];
  rows = [];
  objective = objective.Feasibility;
  next = record { group = 0; variable = 0; row = 0 };
}

-- ---- what stands in the model

-- the variables of all groups, in their order
abbrev pub variables : ModelValue → List GroupVar
variables model = flat_map (λ g. g.vars) model.groups

-- the number of the variable with a name
abbrev pub variable_named : ModelValue → List ℕ → Option ℕ
variable_named model name =
    option_map (λ v. v.number) (find (λ v. bytes_eq v.name name) (variables model))

abbrev pub row_named : ModelValue → List ℕ → Option Row
row_named model name = find (λ r. bytes_eq r.name name) model.rows

abbrev pub has_variable : ℕ → Group → Bool
has_variable n g = list_any (λ v. v.number == n) g.vars

-- the group of the variable with a number
abbrev pub group_of : ModelValue → ℕ → Option Group
group_of model n = find (has_variable n) model.groups

-- the address of the variable with a number
abbrev pub variable_address : ℕ → Address
variable_address n = root_address Variable n

-- the address of the variable with a name, which is to stand in the model
abbrev pub address_named : ModelValue → List ℕ → Address
address_named model name = variable_address (unwrap_or (variable_named model name) 0)

-- the name of the variable at an address
abbrev pub name_at : ModelValue → Address → Option (List ℕ)
name_at model at =
    option_map (λ v. v.name)
    (find (λ v. address_eq (variable_address v.number) at) (variables model))

-- the row, or the objective, has the address as a component or in a term
abbrev pub row_mentions : Address → Row → Bool
row_mentions at row = func_mentions at row.func

abbrev pub objective_mentions : Address → Objective → Bool
objective_mentions at objective.Feasibility = false
objective_mentions at (objective.Plain sense var) = address_eq at var
objective_mentions at (objective.Affine sense f) = has_term at f

-- ---- bounds

-- the function is the variable with a number
abbrev pub is_variable : ℕ → UserFunc → Bool
is_variable n (Plain var) = address_eq (variable_address n) var
is_variable n (Affine f) = false
is_variable n (PlainVec vars) = false
is_variable n (AffineVec fs) = false

-- a plain row that is a lower bound of the variable
abbrev pub bounds_below : ℕ → Row → Bool
bounds_below n row = is_variable n row.func && sets_lower row.set

-- a plain row that is an upper bound of the variable
abbrev pub bounds_above : ℕ → Row → Bool
bounds_above n row = is_variable n row.func && sets_upper row.set

-- the creation set of the variable passes the test
abbrev pub is_created : (Set → Bool) → ModelValue → ℕ → Bool
is_created test model n = option_map_or (λ g. test g.set) (group_of model n) false

-- a row or the creation set bounds the variable from below
abbrev pub has_lower_bound : ModelValue → ℕ → Bool
has_lower_bound model n = list_any (bounds_below n) model.rows || is_created sets_lower model n

-- a row or the creation set bounds the variable from above
abbrev pub has_upper_bound : ModelValue → ℕ → Bool
has_upper_bound model n = list_any (bounds_above n) model.rows || is_created sets_upper model n

-- ---- terms

abbrev pub objective_terms : Objective → ℕ
objective_terms objective.Feasibility = 0
objective_terms (objective.Plain sense var) = 0
objective_terms (objective.Affine sense f) = term_count f

-- the number of terms of all rows and of the objective
abbrev pub total_terms : ModelValue → ℕ
total_terms model = sum_by (λ r. all_terms r.func) model.rows + objective_terms model.objective
