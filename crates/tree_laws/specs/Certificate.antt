-- The certificate that an answer for the leaf model is carried to: what is said of the user's
-- variables and rows.
use Rattle.std.specs.Prelude.{List, [], ◌∷◌, length, map, take}
use Rattle.ratio_core.specs.Rational.{Rational, neg_ℚ, one_ℚ, zero_ℚ, ◌-ℚ◌}
use Rattle.aff_core.specs.Address.{Address}
use Rattle.aff_core.specs.Function.{coefficient, slope, value_of}
use Rattle.certificates.specs.Duals.{adjoint_of_rows, dual_gap, reduced_cost}
use Rattle.certificates.specs.Points.{addresses_of, objective_coefficient, objective_value, sense_of}
use Rattle.certificates.specs.declared.certificate.Certificate.{Certificate}
use Rattle.certificates.specs.declared.certificate.Certificate.TheVariants.{Infeasible, Optimal, Unbounded}
use Rattle.dual_laws.specs.Held.{adjoint}
use Rattle.equality_form.specs.EqualityForm.{cost}
use Rattle.equality_form.specs.ReadBack.{AnswerByAddress, infeasible, optimal, unbounded}
use Rattle.equality_form.specs.Right.{held_rows}
use Rattle.fresh_bridging.specs.Entries.{function_in}
use Rattle.fresh_bridging.specs.FreshBridging.{FreshBridging, leaves_of}
use Rattle.fresh_bridging.specs.TheRules.{Setting}
use Rattle.user_model.specs.Model.{ModelValue, variables}
use Rattle.tree_laws.specs.Carried.{LeafAnswerDuals, backs}

module _ {setting : Setting} {model : ModelValue} (bridging : FreshBridging setting model) where
  -- the user's variables have the values of their expressions, and along a ray the slopes
  abbrev pub point_of : (Address → Rational) → List Rational
  point_of x =
      map (λ v. value_of (function_in bridging.made.entries v) x)
      (addresses_of (variables model))

  abbrev pub ray_of : (Address → Rational) → List Rational
  ray_of d =
      map (λ v. slope (function_in bridging.made.entries v) d) (addresses_of (variables model))

  -- the leaves' duals, with so much of the objective: the numbers are what is left of the costs
  abbrev pub leaf_duals : Rational → (Address → Rational) → (Address → List Rational)
      → LeafAnswerDuals
  leaf_duals o costs y = record {
    bound = zero_ℚ;
    objective = o ∷ [];
    numbers = λ v. costs v -ℚ adjoint (held_rows (leaves_of bridging) y) v;
    duals = y;
  }

  abbrev pub optimal_duals : (Address → List Rational) → LeafAnswerDuals
  optimal_duals y = leaf_duals (neg_ℚ one_ℚ) (coefficient (cost (leaves_of bridging))) y

  abbrev pub infeasible_duals : (Address → List Rational) → LeafAnswerDuals
  infeasible_duals y = leaf_duals zero_ℚ (λ v. zero_ℚ) y

  -- the rows' duals are carried back
  abbrev pub rows_of : LeafAnswerDuals → List (List Rational)
  rows_of d = take (length model.rows) (backs d bridging.made.others)

  -- and the variables' duals are what is left for them
  abbrev pub reduced_costs : List (List Rational) → List Rational
  reduced_costs rows =
      map
      (λ v. reduced_cost (sense_of model.objective) (objective_coefficient model v)
      (adjoint_of_rows model rows v))
      (addresses_of (variables model))

  abbrev pub cancelling : List (List Rational) → List Rational
  cancelling rows =
      map (λ v. neg_ℚ (adjoint_of_rows model rows v)) (addresses_of (variables model))

  abbrev pub certificate_of : AnswerByAddress → Certificate
  certificate_of (optimal x y) =
      let rows = rows_of (optimal_duals y) in
      Optimal (objective_value model (point_of x)) (point_of x) rows (reduced_costs rows)
  certificate_of (infeasible y) =
      let rows = rows_of (infeasible_duals y) in
      Infeasible (dual_gap model rows (cancelling rows)) rows (cancelling rows)
  certificate_of (unbounded x d) = Unbounded (point_of x) (ray_of d)
