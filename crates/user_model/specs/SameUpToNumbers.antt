-- Models that differ in nothing but the numbers of their groups, variables and rows.
use Rattle.std.specs.Prelude.{◌≡◌, ℕ, nat_lt, List, map, count_by, refl, [], ◌∷◌}
use Rattle.ratio_core.specs.Rational.{zero_ℚ}
use Rattle.aff_core.specs.Address.{Address}
use Rattle.aff_core.specs.Function.{Function, function_of, terms_of}
use Rattle.set_core.specs.declared.set.Set.TheVariants.{GreaterThan, Reals}
use Rattle.user_model.specs.declared.function.UserFunc.{UserFunc}
use Rattle.user_model.specs.declared.function.UserFunc.TheVariants.{Plain, Affine, PlainVec, AffineVec}
use Rattle.user_model.specs.declared.group.Group.{Group}
use Rattle.user_model.specs.declared.group.GroupVar.{GroupVar}
use Rattle.user_model.specs.declared.row.Row.{Row}
use Rattle.user_model.specs.declared.objective.Objective.{Objective}
use Rattle.user_model.specs.declared.objective.Objective.TheVariants as objective
use Rattle.user_model.specs.declared.undo.NextNumbers.{NextNumbers}
use Rattle.user_model.specs.Model.{ModelValue, variable_address, variables}
use Rattle.user_model.specs.Consistent.{variable_number}
use Rattle.user_model.specs.Edited.{group_number, row_number}

-- the position of a number in the order of these: how many of them are less
abbrev pub position : List ℕ → ℕ → ℕ
position numbers n = count_by (λ m. nat_lt m n) numbers

module _ (vars : List ℕ) where
  -- the address of a variable by its position
  abbrev pub address_by_position : Address → Address
  address_by_position at = variable_address (position vars at.number)

  abbrev pub affine_by_position : Function → Function
  affine_by_position f =
      function_of (map (λ t. (address_by_position t.0, t.1)) (terms_of f)) f.constant

  abbrev pub function_by_position : UserFunc → UserFunc
  function_by_position (Plain var) = Plain (address_by_position var)
  function_by_position (Affine f) = Affine (affine_by_position f)
  function_by_position (PlainVec at) = PlainVec (map address_by_position at)
  function_by_position (AffineVec fs) = AffineVec (map affine_by_position fs)

  abbrev pub objective_by_position : Objective → Objective
  objective_by_position objective.Feasibility = objective.Feasibility
  objective_by_position (objective.Plain sense var) =
      objective.Plain sense (address_by_position var)
  objective_by_position (objective.Affine sense f) = objective.Affine sense (affine_by_position f)

  abbrev pub variable_by_position : GroupVar → GroupVar
  variable_by_position var = record var { number = position vars var.number }

-- the numbers of the variables
abbrev pub variable_numbers : ModelValue → List ℕ
variable_numbers model = map variable_number (variables model)

-- the groups, the rows and the objective with each number replaced by its position
abbrev pub group_by_position : ModelValue → Group → Group
group_by_position model g = record g {
  id = position (map group_number model.groups) g.id;
  vars = map (variable_by_position (variable_numbers model)) g.vars;
}

abbrev pub row_by_position : ModelValue → Row → Row
row_by_position model r = record r {
  id = position (map row_number model.rows) r.id;
  func = function_by_position (variable_numbers model) r.func;
}

abbrev pub groups_by_position : ModelValue → List Group
groups_by_position model = map (group_by_position model) model.groups

abbrev pub rows_by_position : ModelValue → List Row
rows_by_position model = map (row_by_position model) model.rows

-- the lists and the objectives agree once each number is replaced by its position
pub record SameUpToNumbers (one other : ModelValue) : Type 0 where
  pub groups : groups_by_position one ≡ groups_by_position other
  pub rows : rows_by_position one ≡ rows_by_position other
  pub objective : objective_by_position (variable_numbers one) one.objective
      ≡ objective_by_position (variable_numbers other) other.objective

-- ---- an example: a variable and a row that bounds it, with these numbers and any next ones

example : ℕ → ℕ → ℕ → NextNumbers → List ℕ → List ℕ → ModelValue
example g v r next x q = record {
  groups = record { id = g; vars = record { number = v; name = x } ∷ []; set = Reals 1 } ∷ [];
  rows =
      record { id = r; name = q; func = Plain (variable_address v); set = GreaterThan zero_ℚ } ∷ [];
  objective = objective.Feasibility;
  next = next;
}

example_same : (next later : NextNumbers) (x q : List ℕ)
    → SameUpToNumbers (example 0 0 0 next x q) (example 3 7 5 later x q)
unfolding example
example_same next later x q = record { groups = refl; rows = refl; objective = refl }
