-- Certificates judged by what the calls answer.
use Rattle.std.specs.Prelude.{◌≡◌, ◌↔◌, Bool, IsTrue, List, length, All, Result, Ok, Err, map}
use Rattle.std.proofs.Common.{sym, ◌∙◌, ap, subst}
use Rattle.ratio_core.specs.Folds.{sum_from}
use Rattle.ratio_core.specs.Rational.{Rational, SumFits, one_ℚ, zero_ℚ, ◌‹ℚ◌}
use Rattle.aff_core.specs.Address.{Address}
use Rattle.aff_core.specs.Function.{evaluated, slope}
use Rattle.dual_laws.specs.Held.{DualRow, adjoint}
use Rattle.linear_laws.specs.EvaluationLaws.{evaluated_slope, evaluated_value}
use Rattle.set_core.specs.Membership.{Dual, DualFits}
use Rattle.user_model.specs.Model.{ModelValue, variables}
use Rattle.certificates.specs.Duals.{dual_gap, dual_value, rows_with, with_duals}
use Rattle.certificates.specs.Feasible.{IsBetter}
use Rattle.certificates.specs.Good.{Cancels, HasReducedCost, IsInfeasible, IsOptimal, IsUnbounded}
use Rattle.certificates.specs.Points.{addresses_of, at_point, objective_constant, objective_function, sense_of}
use Rattle.ratio_core.specs.Rational.{rational_eq}
use Rattle.ratio_core.specs.RationalLaws.{rational_eq_Decides}
use Rattle.ratio_core.specs.declared.fault.NumberFault.{NumberFault}
use Rattle.ratio_core.specs.declared.fault.NumberFault.TheVariants.{Overflow, Memory}
use Rattle.certificates.specs.Good.{Good}
use Rattle.certificates.specs.declared.certificate.Certificate.{Certificate}
use Rattle.certificates.specs.declared.certificate.Certificate.TheVariants.{Optimal, Infeasible, Unbounded}
use Rattle.cert_core.specs.Answers.{TellsWhereFits}
use Rattle.cert_core.specs.Checked.{Checks, HasEntries, HasRowDuals}
use Rattle.cert_core.specs.Folds.{AddUp, CertificateFits, DualValueFits, InfeasibleFits, ObjectiveValueFits, OptimalFits, PointFits, ReducedCostFits, UnboundedFits, adjoint_parts, gap_parts}
use Rattle.cert_core.specs.Holding.{ModelHoldsAt}
use Rattle.cert_core.proofs.Assembled.{are_duals, feasible, row_duals, from_duals, from_feasible, from_ray, ray}
use Rattle.cert_core.proofs.Parts.{adjoint_is}

-- the sums of all variables are the adjoint
pub sums_are : (hs : List DualRow) (us : List Address) (sums : List Rational)
    → sums ≡ map (λ v. sum_from zero_ℚ (adjoint_parts hs v)) us → map (adjoint hs) us ≡ sums
sums_are hs us sums e = sym (e ∙ (λ i. map (λ v. adjoint_is hs v i) us))

module _ (model : ModelValue) where
  abbrev us : List Address
  us = addresses_of (variables model)

  abbrev HasSize : List Rational → Type 0
  HasSize x = length x ≡ length (variables model)

  abbrev Along : Rational → List Rational → Rational
  Along one x = evaluated one (objective_function model.objective) (at_point model x)

  module _ (rows : List (List Rational)) (vars : List Rational)
      (entries : HasRowDuals model.rows rows) (size : HasSize vars) where
    abbrev hs : List DualRow
    hs = with_duals model rows vars

    abbrev Sets : Type 0
    Sets = All (λ h. DualFits h.set h.duals) hs

    abbrev InSets : Type 0
    InSets = All (λ h. Dual h.set h.duals) hs

    abbrev Adjoint : Type 0
    Adjoint = All (λ v. AddUp zero_ℚ (adjoint_parts (rows_with rows model.rows) v)) us

    pub is_optimal : (value primal dual gap : Rational) (x : List Rational)
        (feasible_b sets_b equal_b primal_b dual_b now : Bool) → HasSize x
        → PointFits model one_ℚ x → (IsTrue feasible_b ↔ ModelHoldsAt model one_ℚ x)
        → ObjectiveValueFits model one_ℚ x → primal ≡ Along one_ℚ x
        → Sets → (IsTrue sets_b ↔ InSets) → Adjoint
        → All (ReducedCostFits model rows) us
        → (IsTrue equal_b ↔ All (HasReducedCost model rows vars) us)
        → AddUp zero_ℚ (gap_parts hs) → gap ≡ dual_gap model rows vars
        → DualValueFits (sense_of model.objective) (objective_constant model) gap
        → dual ≡ dual_value (sense_of model.objective) (objective_constant model) gap
        → (IsTrue primal_b ↔ (value ≡ primal)) → (IsTrue dual_b ↔ (value ≡ dual))
        → (IsTrue now ↔ (IsTrue feasible_b × IsTrue sets_b × IsTrue equal_b × IsTrue primal_b
        × IsTrue dual_b))
        → OptimalFits model x rows vars × (IsTrue now ↔ IsOptimal model value x rows vars)
    is_optimal value primal dual gap x feasible_b sets_b equal_b primal_b dual_b now x_size point
        holds objective primal_is sets in_sets adjoint costs equations gaps gap_is dual_fits dual_is
        p d all = (
          record {
            point = point;
            value = objective;
            duals = record { sets = sets; adjoint = adjoint; gap = gaps };
            equations = costs;
            dual_value = subst (DualValueFits (sense_of model.objective) (objective_constant model))
                gap_is dual_fits;
          },
          (
            λ t. let k = all.0 t in record {
              feasible = feasible model x x_size (holds.0 k.0);
              duals = are_duals model rows vars entries size (in_sets.0 k.1);
              equations = equations.0 k.2;
              primal = p.0 k.3 ∙ primal_is
                  ∙ evaluated_value (objective_function model.objective) (at_point model x);
              dual = d.0 k.4 ∙ dual_is ∙ ap (dual_value (sense_of model.objective)
                  (objective_constant model)) gap_is;
            },
            λ o. all.1 (
              holds.1 (from_feasible model x o.feasible),
              in_sets.1 (from_duals model rows vars o.duals),
              equations.1 o.equations,
              p.1 (o.primal ∙ sym (primal_is
                  ∙ evaluated_value (objective_function model.objective) (at_point model x))),
              d.1 (o.dual ∙ sym (dual_is ∙ ap (dual_value (sense_of model.objective)
                  (objective_constant model)) gap_is)),
            ),
          ),
        )

    pub is_infeasible : (gap of_duals : Rational) (sets_b equal_b gap_b positive_b now : Bool)
        → Sets → (IsTrue sets_b ↔ InSets) → Adjoint
        → All (λ v. SumFits (adjoint (rows_with rows model.rows) v) (at_point model vars v)) us
        → (IsTrue equal_b ↔ All (Cancels model rows vars) us)
        → AddUp zero_ℚ (gap_parts hs) → of_duals ≡ dual_gap model rows vars
        → (IsTrue gap_b ↔ (gap ≡ of_duals)) → (IsTrue positive_b ↔ (zero_ℚ ‹ℚ gap))
        → (IsTrue now ↔ (IsTrue sets_b × IsTrue equal_b × IsTrue gap_b × IsTrue positive_b))
        → InfeasibleFits model rows vars × (IsTrue now ↔ IsInfeasible model gap rows vars)
    is_infeasible gap of_duals sets_b equal_b gap_b positive_b now sets in_sets adjoint sums
        equations gaps gap_is g p all = (
          record {
            duals = record { sets = sets; adjoint = adjoint; gap = gaps };
            equations = sums;
          },
          (
            λ t. let k = all.0 t in record {
              duals = are_duals model rows vars entries size (in_sets.0 k.0);
              equations = equations.0 k.1;
              is_gap = g.0 k.2 ∙ gap_is;
              positive = p.0 k.3;
            },
            λ o. all.1 (
              in_sets.1 (from_duals model rows vars o.duals),
              equations.1 o.equations,
              g.1 (o.is_gap ∙ sym gap_is),
              p.1 o.positive,
            ),
          ),
        )

  pub is_unbounded : (slope_q : Rational) (x d : List Rational)
      (feasible_b ray_b better_b now : Bool) → HasSize x → HasSize d
      → PointFits model one_ℚ x → (IsTrue feasible_b ↔ ModelHoldsAt model one_ℚ x)
      → PointFits model zero_ℚ d → (IsTrue ray_b ↔ ModelHoldsAt model zero_ℚ d)
      → ObjectiveValueFits model zero_ℚ d → slope_q ≡ Along zero_ℚ d
      → (IsTrue better_b ↔ IsBetter (sense_of model.objective) slope_q zero_ℚ)
      → (IsTrue now ↔ (IsTrue feasible_b × IsTrue ray_b × IsTrue better_b))
      → UnboundedFits model x d × (IsTrue now ↔ IsUnbounded model x d)
  is_unbounded slope_q x d feasible_b ray_b better_b now x_size d_size point holds along stays
      objective slope_is better all = (
        record { point = point; ray = along; slope = objective },
        (
          λ t. let k = all.0 t in record {
            feasible = feasible model x x_size (holds.0 k.0);
            ray = ray model d d_size (stays.0 k.1);
            improves = subst (λ q. IsBetter (sense_of model.objective) q zero_ℚ) slope_eq
                (better.0 k.2);
          },
          λ u. all.1 (
            holds.1 (from_feasible model x u.feasible),
            stays.1 (from_ray model d u.ray),
            better.1 (subst (λ q. IsBetter (sense_of model.objective) q zero_ℚ) (sym slope_eq)
                u.improves),
          ),
        ),
      )
    where
      slope_eq : slope_q ≡ slope (objective_function model.objective) (at_point model d)
      slope_eq = slope_is
          ∙ evaluated_slope (objective_function model.objective) (at_point model d)

-- ---- from the calls to the certificate

pub equal_told : (b : Bool) (p q : Rational) → b ≡ rational_eq p q → IsTrue b ↔ (p ≡ q)
equal_told b p q is = (
  λ t. (rational_eq_Decides p q).0 (sym is ∙ t),
  λ e. is ∙ (rational_eq_Decides p q).1 e,
)

-- a good certificate has the right numbers of entries
pub good_entries : (model : ModelValue) (c : Certificate) → Good model c → HasEntries model c
good_entries model (Optimal value x rows vars) g =
    (g.feasible.size, row_duals model rows vars g.duals, g.duals.each_variable)
good_entries model (Infeasible gap rows vars) g =
    (row_duals model rows vars g.duals, g.duals.each_variable)
good_entries model (Unbounded x d) g = (g.feasible.size, g.ray.size)

pub checks_told : (model : ModelValue) (r : Result Bool NumberFault) (c : Certificate)
    → HasEntries model c → TellsWhereFits r (CertificateFits model c) (Good model c)
    → Checks model r c
checks_told model (Ok is_good) c entries h = (h.1, λ _. h.0)
checks_told model (Err Overflow) c entries h = (entries, h)
checks_told model (Err Memory) c entries h = tt
