-- Costs by the sense: values, slopes and reduced costs of objectives that are to be least, or
-- greatest.
use Rattle.std.specs.Prelude.{◌≡◌, refl}
use Rattle.std.proofs.Common.{sym, ap, subst, ◌∙◌}
use Rattle.ratio_core.specs.Rational.{Rational, neg_ℚ, one_ℚ, zero_ℚ, ◌*ℚ◌, ◌+ℚ◌, ◌-ℚ◌, ◌≤ℚ◌, ◌‹ℚ◌}
use Rattle.rational_laws.specs.Field.{neg_ℚ-neg_ℚ, neg_ℚ-zero}
use Rattle.rational_laws.specs.Order.{≤ℚ_from_‹ℚ, neg_ℚ-‹ℚ, zero_‹ℚ_one, nonpos_neg}
use Rattle.rational_laws.specs.Ring.{as_expression, by_ring, ring₂, one_as}
use Rattle.aff_core.specs.Address.{Address}
use Rattle.aff_core.specs.Function.{Function, IsNegated, coefficient, negated, slope, value_of}
use Rattle.aff_core.specs.FunctionLaws.{is_negated}
use Rattle.aff_core.specs.KeyOrder.{address_order}
use Rattle.aff_core.specs.declared.sense.Sense.{Sense}
use Rattle.aff_core.specs.declared.sense.Sense.TheVariants.{Min, Max}
use Rattle.linear_laws.specs.EvaluationLaws.{evaluated_value}
use Rattle.linear_laws.specs.ListLaws.{evaluated_negated, slope_negated}
use Rattle.certificates.specs.Duals.{dual_value, reduced_cost}
use Rattle.certificates.specs.Feasible.{IsBetter}
use Rattle.bridge_face.specs.Law.{cost_by}

-- ---- the sense

negation : (f : Function) → IsNegated f (negated f)
negation f = is_negated address_order f (negated f) refl

pub reduced_is : (sense : Sense) (f : Function) (adj : Rational) (v : Address)
    → reduced_cost sense (coefficient f v) adj
    ≡ neg_ℚ (adj +ℚ neg_ℚ one_ℚ *ℚ coefficient (cost_by sense f) v)
reduced_is Min f adj v = least (coefficient f v) adj
  where
    least : (c q : Rational) → c -ℚ q ≡ neg_ℚ (q +ℚ neg_ℚ one_ℚ *ℚ c)
    least = ring₂ _ (λ ρ. simp (as_expression, one_as ρ) (by_ring ρ _ _ refl))
reduced_is Max f adj v =
    greatest (coefficient f v) adj
    ∙ ap (λ q. neg_ℚ (adj +ℚ neg_ℚ one_ℚ *ℚ q)) (sym ((negation f).coefficients v))
  where
    greatest : (c q : Rational) → neg_ℚ (c +ℚ q) ≡ neg_ℚ (q +ℚ neg_ℚ one_ℚ *ℚ neg_ℚ c)
    greatest = ring₂ _ (λ ρ. simp (as_expression, one_as ρ) (by_ring ρ _ _ refl))

-- the objective's value by its cost's
pub value_is : (sense : Sense) (f : Function) (x : Address → Rational) (g : Rational)
    → value_of (cost_by sense f) x ≡ (cost_by sense f).constant +ℚ g
    → value_of f x ≡ dual_value sense f.constant g
value_is Min f x g h = h
value_is Max f x g h =
    sym (neg_ℚ-neg_ℚ (value_of f x))
    ∙ ap neg_ℚ (sym (value_negated f x) ∙ h ∙ ap (λ q. q +ℚ g) (negation f).constant)
    ∙ turned f.constant g
  where
    value_negated : (k : Function) (p : Address → Rational) → value_of (negated k) p ≡ neg_ℚ
        (value_of k p)
    value_negated k p =
        sym (evaluated_value (negated k) p) ∙ evaluated_negated one_ℚ k (negated k) (negation k) p
        ∙ ap neg_ℚ (evaluated_value k p)

    turned : (c q : Rational) → neg_ℚ (neg_ℚ c +ℚ q) ≡ c -ℚ q
    turned = ring₂ _ (λ ρ. simp as_expression (by_ring ρ _ _ refl))

pub better_is : (sense : Sense) (f : Function) (x : Address → Rational)
    → slope (cost_by sense f) x ‹ℚ zero_ℚ → IsBetter sense (slope f x) zero_ℚ
better_is Min f x h = h
better_is Max f x h =
    subst (λ q. zero_ℚ ‹ℚ q)
    (ap neg_ℚ (slope_negated f (negated f) (negation f) x) ∙ neg_ℚ-neg_ℚ (slope f x))
    (subst (λ q. q ‹ℚ neg_ℚ (slope (negated f) x)) neg_ℚ-zero
    (neg_ℚ-‹ℚ (slope (negated f) x) zero_ℚ h))

pub one_nonneg : zero_ℚ ≤ℚ one_ℚ
one_nonneg = ≤ℚ_from_‹ℚ zero_ℚ one_ℚ zero_‹ℚ_one

pub minus_nonpos : neg_ℚ one_ℚ ≤ℚ zero_ℚ
minus_nonpos = nonpos_neg one_ℚ one_nonneg
