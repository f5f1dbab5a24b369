-- Certificates that show what they say, by the user's model alone.
use Rattle.std.specs.Prelude.{◌≡◌, List, All}
use Rattle.ratio_core.specs.Rational.{Rational, zero_ℚ, ◌+ℚ◌, ◌‹ℚ◌}
use Rattle.aff_core.specs.Address.{Address}
use Rattle.user_model.specs.Model.{ModelValue, variables}
use Rattle.certificates.specs.declared.certificate.Certificate.{Certificate}
use Rattle.certificates.specs.declared.certificate.Certificate.TheVariants.{Optimal, Infeasible, Unbounded}
use Rattle.certificates.specs.Points.{addresses_of, at_point, objective_coefficient, objective_constant, objective_slope, objective_value, sense_of}
use Rattle.certificates.specs.Feasible.{IsBetter, IsFeasible, IsRay}
use Rattle.certificates.specs.Duals.{AreDuals, adjoint_of_rows, dual_gap, dual_value, reduced_cost}

module _ (model : ModelValue) where
  -- the dual of a variable is what the objective and the rows leave for it
  abbrev pub HasReducedCost : List (List Rational) → List Rational → Address → Type 0
  HasReducedCost rows vars v =
      at_point model vars v
      ≡ reduced_cost (sense_of model.objective)
      (objective_coefficient model v) (adjoint_of_rows model rows v)

  -- the duals' objective
  abbrev pub dual_objective : List (List Rational) → List Rational → Rational
  dual_objective rows vars =
      dual_value (sense_of model.objective) (objective_constant model) (dual_gap model rows vars)

  -- a feasible point and duals that have the same value
  pub record IsOptimal (value : Rational) (x : List Rational)
      (rows : List (List Rational)) (vars : List Rational) : Type 0 where
    pub feasible : IsFeasible model x
    pub duals : AreDuals model rows vars
    pub equations : All (HasReducedCost rows vars) (addresses_of (variables model))
    pub primal : value ≡ objective_value model x
    pub dual : value ≡ dual_objective rows vars

  -- with the dual of the variable, the rows' duals come to nothing
  abbrev pub Cancels : List (List Rational) → List Rational → Address → Type 0
  Cancels rows vars v = adjoint_of_rows model rows v +ℚ at_point model vars v ≡ zero_ℚ

  -- duals that cancel at every variable, and yet have a gap
  pub record IsInfeasible (gap : Rational)
      (rows : List (List Rational)) (vars : List Rational) : Type 0 where
    pub duals : AreDuals model rows vars
    pub equations : All (Cancels rows vars) (addresses_of (variables model))
    pub is_gap : gap ≡ dual_gap model rows vars
    pub positive : zero_ℚ ‹ℚ gap

  -- a feasible point, and a ray along which the objective improves; a model without an objective
  -- has none
  pub record IsUnbounded (x d : List Rational) : Type 0 where
    pub feasible : IsFeasible model x
    pub ray : IsRay model d
    pub improves : IsBetter (sense_of model.objective) (objective_slope model d) zero_ℚ

  abbrev pub Good : Certificate → Type 0
  Good (Optimal value x rows vars) = IsOptimal value x rows vars
  Good (Infeasible gap rows vars) = IsInfeasible gap rows vars
  Good (Unbounded x d) = IsUnbounded x d
