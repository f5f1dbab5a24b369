-- What a point of the dual says of the model: duals of its rows and of its variables. And that the
-- dual is right: each feasible point is carried to right duals, whose objective is at least as good,
-- and all right duals are carried from a feasible point with their objective.
use Rattle.std.specs.Prelude.{◌≡◌, ℕ, List, [], ◌∷◌, All, drop, map, take}
use Rattle.ratio_core.specs.Rational.{Rational}
use Rattle.aff_core.specs.Address.{Address}
use Rattle.user_model.specs.declared.row.Row.{Row}
use Rattle.user_model.specs.Model.{ModelValue, variables}
use Rattle.certificates.specs.Points.{addresses_of, objective_coefficient, objective_value, sense_of}
use Rattle.certificates.specs.Feasible.{IsBetter, IsFeasible}
use Rattle.certificates.specs.Duals.{AreDuals, adjoint_of_rows, reduced_cost}
use Rattle.certificates.specs.Good.{HasReducedCost, dual_objective}
use Rattle.dual_parts.specs.Parts.{joined, part_count}
use Rattle.dual_model.specs.DualOf.{dual_of_model, row_size}

-- how many variables hold a row's duals
abbrev pub part_size : Row → ℕ
part_size r = part_count r.set (row_size r)

-- the duals of the rows, from numbers of the variables that hold them
abbrev pub carried_rows : List Row → List Rational → List (List Rational)
carried_rows [] x = []
carried_rows (r ∷ rows) x =
    joined r.set (take (part_size r) x) ∷ carried_rows rows (drop (part_size r) x)

module _ (model : ModelValue) where
  -- the duals of the variables, which the rows' duals leave
  abbrev pub carried_variable : List (List Rational) → Address → Rational
  carried_variable rows v =
      reduced_cost (sense_of model.objective)
      (objective_coefficient model v) (adjoint_of_rows model rows v)

  abbrev pub carried_variables : List (List Rational) → List Rational
  carried_variables rows = map (carried_variable rows) (addresses_of (variables model))

  -- duals in the dual sets, which meet the equations
  pub record AreRightDuals (rows : List (List Rational)) (vars : List Rational) : Type 0 where
    pub duals : AreDuals model rows vars
    pub equations : All (HasReducedCost model rows vars) (addresses_of (variables model))

  -- what a feasible point is carried to
  pub record CarriesTo (x : List Rational)
      (rows : List (List Rational)) (vars : List Rational) : Type 0 where
    pub right : AreRightDuals rows vars
    pub no_better : ¬ (IsBetter (sense_of (dual_of_model model).objective)
        (objective_value (dual_of_model model) x) (dual_objective model rows vars))

  -- a feasible point that is carried to some duals, with their objective
  pub record IsCarriedFrom (rows : List (List Rational)) (vars x : List Rational) : Type 0 where
    pub feasible : IsFeasible (dual_of_model model) x
    pub gives_rows : carried_rows model.rows x ≡ rows
    pub gives_variables : carried_variables rows ≡ vars
    pub value : objective_value (dual_of_model model) x ≡ dual_objective model rows vars

  -- the dual of the model holds just its duals
  pub record HoldsDuals : Type 0 where
    pub carries : (x : List Rational) → IsFeasible (dual_of_model model) x
        → CarriesTo x (carried_rows model.rows x)
        (carried_variables (carried_rows model.rows x))
    pub carried : (rows : List (List Rational)) (vars : List Rational) → AreRightDuals rows vars
        → (x : List Rational) × IsCarriedFrom rows vars x
