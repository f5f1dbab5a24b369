-- Duals, with the signs of the manual of MathOptInterface: numbers for the rows' components and
-- for the variables, whose duals are those of their groups.
--     adjoint_of_rows  A  over rows and components, a variable's coefficient times the dual
--     dual_gap         G  over rows and groups, the least product with the set, less the duals
--                         times the constants
--     reduced_cost        what the objective's coefficient and A leave for a variable's dual
--     dual_value          the duals' objective, of the objective's constant and G
use Rattle.std.specs.Prelude.{◌≡◌, List, [], ◌∷◌, ◌++◌, length, map, All}
use Rattle.ratio_core.specs.Rational.{Rational, neg_ℚ, ◌+ℚ◌, ◌-ℚ◌}
use Rattle.aff_core.specs.Address.{Address}
use Rattle.aff_core.specs.declared.sense.Sense.{Sense}
use Rattle.aff_core.specs.declared.sense.Sense.TheVariants.{Min, Max}
use Rattle.dual_laws.specs.Held.{DualRow, HasDuals, adjoint, gap}
use Rattle.user_model.specs.declared.group.Group.{Group}
use Rattle.user_model.specs.declared.row.Row.{Row}
use Rattle.user_model.specs.Model.{ModelValue, variables}
use Rattle.certificates.specs.Points.{addresses_of, at_point, functions_of, functions_of_group}

-- ---- rows and groups with their duals

abbrev pub row_with : List Rational → Row → DualRow
row_with y r = record { duals = y; functions = functions_of r.func; set = r.set }

abbrev pub rows_with : List (List Rational) → List Row → List DualRow
rows_with [] rows = []
rows_with (y ∷ ys) [] = []
rows_with (y ∷ ys) (r ∷ rows) = row_with y r ∷ rows_with ys rows

abbrev pub group_with : (Address → Rational) → Group → DualRow
group_with w g =
    record { duals = map w (addresses_of g.vars); functions = functions_of_group g; set = g.set }

abbrev pub groups_with : (Address → Rational) → List Group → List DualRow
groups_with w groups = map (group_with w) groups

module _ (model : ModelValue) (rows : List (List Rational)) where
  abbrev pub adjoint_of_rows : Address → Rational
  adjoint_of_rows v = adjoint (rows_with rows model.rows) v

  module _ (vars : List Rational) where
    abbrev pub with_duals : List DualRow
    with_duals = rows_with rows model.rows ++ groups_with (at_point model vars) model.groups

    abbrev pub dual_gap : Rational
    dual_gap = gap with_duals

-- duals for each row and each variable, in the dual sets
pub record AreDuals (model : ModelValue)
    (rows : List (List Rational)) (vars : List Rational) : Type 0 where
  pub each_row : length rows ≡ length model.rows
  pub each_variable : length vars ≡ length (variables model)
  pub duals : All HasDuals (with_duals model rows vars)

-- ---- by the sense

abbrev pub reduced_cost : Sense → Rational → Rational → Rational
reduced_cost Min cost adjoint = cost -ℚ adjoint
reduced_cost Max cost adjoint = neg_ℚ (cost +ℚ adjoint)

abbrev pub dual_value : Sense → Rational → Rational → Rational
dual_value Min constant gap = constant +ℚ gap
dual_value Max constant gap = constant -ℚ gap
