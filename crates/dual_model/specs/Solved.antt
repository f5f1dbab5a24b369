-- What follows of a model whose dual is solved: an optimal point of the dual is carried to the best
-- duals, and a dual without a feasible point says that there are none.
use Rattle.std.specs.Prelude.{◌≡◌, List}
use Rattle.std.proofs.Common.{subst, sym}
use Rattle.ratio_core.specs.Rational.{Rational}
use Rattle.rational_laws.specs.Order.{≤ℚ_antisymm, ≤ℚ_from_not_‹ℚ}
use Rattle.aff_core.specs.declared.sense.Sense.{Sense}
use Rattle.aff_core.specs.declared.sense.Sense.TheVariants.{Min, Max}
use Rattle.user_model.specs.Model.{ModelValue}
use Rattle.user_model.specs.Valid.{IsValid}
use Rattle.certificates.specs.Points.{sense_of}
use Rattle.certificates.specs.Feasible.{IsBetter}
use Rattle.certificates.specs.Good.{IsInfeasible, IsOptimal, dual_objective}
use Rattle.certificates.specs.GoodLaws.{none_is_better, none_is_feasible}
use Rattle.dual_model.specs.Carried.{AreRightDuals, HoldsDuals, carried_rows, carried_variables}
use Rattle.dual_model.specs.DualOf.{dual_of_model}
use Rattle.dual_model.specs.Duality.{holds_duals}

-- right duals with this objective, than which no right duals have a better one
pub record AreBestDuals (model : ModelValue) (value : Rational) (rows : List (List Rational))
    (vars : List Rational) : Type 0 where
  pub right : AreRightDuals model rows vars
  pub value_is : dual_objective model rows vars ≡ value
  pub none_better : (ys : List (List Rational)) (zs : List Rational) → AreRightDuals model ys zs
      → ¬ (IsBetter (sense_of (dual_of_model model).objective) (dual_objective model ys zs) value)

-- two values of which neither is better are equal
neither_better : (sense : Sense) (p q : Rational) → ¬ (IsBetter sense p q) → ¬ (IsBetter sense q p)
    → p ≡ q
neither_better Min p q h k =
    ≤ℚ_antisymm p q (≤ℚ_from_not_‹ℚ p q k) (≤ℚ_from_not_‹ℚ q p h)
neither_better Max p q h k =
    ≤ℚ_antisymm p q (≤ℚ_from_not_‹ℚ p q h) (≤ℚ_from_not_‹ℚ q p k)

module _ (model : ModelValue) (valid : IsValid model)
    (dual_valid : IsValid (dual_of_model model)) where
  holds : HoldsDuals model
  holds = holds_duals model valid

  module _ (value : Rational) (x : List Rational) (duals : List (List Rational))
      (reduced : List Rational)
      (optimal : IsOptimal (dual_of_model model) value x duals reduced) where
    none_above : (ys : List (List Rational)) (zs : List Rational) → AreRightDuals model ys zs
        → ¬ (IsBetter (sense_of (dual_of_model model).objective) (dual_objective model ys zs) value)
    none_above ys zs right =
        let from = holds.carried ys zs right in
        subst (λ q. ¬ (IsBetter (sense_of (dual_of_model model).objective) q value)) from.1.value
        (none_is_better (dual_of_model model) dual_valid value x duals reduced optimal from.0
        from.1.feasible)

    pub best_duals : AreBestDuals model value (carried_rows model.rows x)
        (carried_variables model (carried_rows model.rows x))
    best_duals =
        let rows = carried_rows model.rows x in
        let vars = carried_variables model rows in
        let to = holds.carries x optimal.feasible in record {
          right = to.right;
          value_is = neither_better (sense_of (dual_of_model model).objective)
              (dual_objective model rows vars) value (none_above rows vars to.right)
              (subst (λ q. ¬ (IsBetter (sense_of (dual_of_model model).objective) q
              (dual_objective model rows vars))) (sym optimal.primal) to.no_better);
          none_better = none_above;
        }

  -- no duals are right where no point of the dual is feasible
  pub no_duals : (gap : Rational) (duals : List (List Rational)) (reduced : List Rational)
      → IsInfeasible (dual_of_model model) gap duals reduced → (ys : List (List Rational))
      (zs : List Rational) → ¬ (AreRightDuals model ys zs)
  no_duals gap duals reduced infeasible ys zs right =
      let from = holds.carried ys zs right in
      none_is_feasible (dual_of_model model) dual_valid gap duals reduced infeasible from.0
      from.1.feasible
