-- Costs and values of the dual, by the sense of the model's objective.
use Rattle.std.specs.Prelude.{◌≡◌, List, [], ◌∷◌, map, refl}
use Rattle.std.proofs.Common.{sym, ◌∙◌, ap, subst}
use Rattle.ratio_core.specs.Rational.{Rational, neg_ℚ, ◌+ℚ◌, ◌-ℚ◌, ◌≤ℚ◌}
use Rattle.rational_laws.specs.Dot.{dot}
use Rattle.rational_laws.specs.DotLaws.{negated-dot}
use Rattle.rational_laws.specs.Field.{neg_ℚ-sum}
use Rattle.rational_laws.specs.Order.{neg_ℚ-≤ℚ, not_‹ℚ_from_≤ℚ, ≤ℚ-+ℚ_left}
use Rattle.rational_laws.specs.Ring.{as_expression, by_ring, ring₃}
use Rattle.aff_core.specs.declared.sense.Sense.{Sense}
use Rattle.aff_core.specs.declared.sense.Sense.TheVariants.{Min, Max}
use Rattle.certificates.specs.Feasible.{IsBetter}
use Rattle.certificates.specs.Duals.{dual_value, reduced_cost}
use Rattle.dual_model.specs.DualOf.{opposite, signed}

pub reduced_is : (sense : Sense) (cost adjoint : Rational)
    → signed sense cost -ℚ adjoint ≡ reduced_cost sense cost adjoint
reduced_is Min cost adjoint = refl
reduced_is Max cost adjoint = sym (neg_ℚ-sum cost adjoint)

pub signed_dot : (sense : Sense) (qs xs : List Rational)
    → dot (map (signed sense) qs) xs ≡ signed sense (dot qs xs)
signed_dot Min qs xs = ap (λ ps. dot ps xs) (same qs)
  where
    same : (qs : List Rational) → map (λ q. q) qs ≡ qs
    same [] = refl
    same (q ∷ qs) = ap (λ ps. q ∷ ps) (same qs)
signed_dot Max qs xs = negated-dot qs xs

regrouped : (k s t : Rational) → (k +ℚ s) +ℚ t ≡ k +ℚ (t +ℚ s)
regrouped = ring₃ _ (λ ρ. simp as_expression (by_ring ρ _ _ refl))

turned : (k s t : Rational) → (k +ℚ s) +ℚ neg_ℚ t ≡ k -ℚ (t +ℚ neg_ℚ s)
turned = ring₃ _ (λ ρ. simp as_expression (by_ring ρ _ _ refl))

-- the dual's value is no better where the count is at most the gap
pub no_better : (sense : Sense) (k s t g : Rational) → (t +ℚ signed sense s) ≤ℚ g
    → ¬ (IsBetter (opposite sense) ((k +ℚ s) +ℚ signed sense t) (dual_value sense k g))
no_better Min k s t g h =
    not_‹ℚ_from_≤ℚ ((k +ℚ s) +ℚ t) (k +ℚ g)
    (subst (λ q. q ≤ℚ (k +ℚ g)) (sym (regrouped k s t)) (≤ℚ-+ℚ_left (t +ℚ s) g k h))
no_better Max k s t g h =
    not_‹ℚ_from_≤ℚ (k -ℚ g) ((k +ℚ s) +ℚ neg_ℚ t)
    (subst (λ q. (k -ℚ g) ≤ℚ q) (sym (turned k s t))
    (≤ℚ-+ℚ_left (neg_ℚ g) (neg_ℚ (t +ℚ neg_ℚ s)) k (neg_ℚ-≤ℚ (t +ℚ neg_ℚ s) g h)))

-- and the same where it is the gap
pub same_value : (sense : Sense) (k s t g : Rational) → t +ℚ signed sense s ≡ g
    → (k +ℚ s) +ℚ signed sense t ≡ dual_value sense k g
same_value Min k s t g h = regrouped k s t ∙ ap (λ q. k +ℚ q) h
same_value Max k s t g h = turned k s t ∙ ap (λ q. k -ℚ q) h
