-- Sums of magnitudes, and how small a product is of a vector of one norm cone with one of the
-- other.
use Rattle.std.specs.Prelude.{◌≡◌, ◌<◌, List, [], ◌∷◌, length, map, All, refl}
use Rattle.std.proofs.Common.{sym, ◌∙◌, ap, arith, subst}
use Rattle.std.proofs.lemmas.List.Elements.{All-head, All-tail}
use Rattle.ratio_core.specs.Folds.{sum_from}
use Rattle.ratio_core.specs.Rational.{Rational, abs_ℚ, neg_ℚ, zero_ℚ, ◌*ℚ◌, ◌+ℚ◌, ◌-ℚ◌, ◌≤ℚ◌}
use Rattle.rational_laws.specs.Dot.{dot}
use Rattle.rational_laws.specs.Field.{*ℚ-+ℚ, *ℚ-zero, *ℚ_comm, neg_ℚ-neg_ℚ, neg_ℚ-sum, neg_ℚ-zero, zero-+ℚ}
use Rattle.rational_laws.specs.Order.{abs_ℚ-*ℚ, abs_ℚ_nonneg, neg_ℚ-≤ℚ, nonneg_abs_ℚ, nonneg_add, nonneg_from_≤ℚ, nonneg_mul, nonpos_neg, ≤ℚ-*ℚ, ≤ℚ-+ℚ, ≤ℚ_abs_ℚ, ≤ℚ_from_≡, ≤ℚ_refl, ≤ℚ_trans}
use Rattle.rational_laws.specs.Ring.{as_expression, by_ring, ring₄}
use Rattle.rational_laws.specs.Sums.{fold_ℚ, sum_ℚ}
use Rattle.set_core.specs.Vectors.{DominatesEach, DominatesSum, first_of}

-- ---- sums of magnitudes

-- the sum of the magnitudes, in either order
abbrev pub norm : List Rational → Rational
norm v = sum_ℚ (map abs_ℚ v)

pub norm_is : (v : List Rational) → sum_from zero_ℚ (map abs_ℚ v) ≡ norm v
norm_is v = fold_ℚ zero_ℚ (map abs_ℚ v) ∙ zero-+ℚ (norm v)

pub norm_nonneg : (v : List Rational) → zero_ℚ ≤ℚ norm v
norm_nonneg [] = ≤ℚ_refl zero_ℚ
norm_nonneg (p ∷ v) = nonneg_add (abs_ℚ p) (norm v) (nonneg_abs_ℚ p) (norm_nonneg v)

pub abs_zero : abs_ℚ zero_ℚ ≡ zero_ℚ
abs_zero = abs_ℚ_nonneg zero_ℚ (≤ℚ_refl zero_ℚ)

-- the first number is at least the norm of the others
pub dominates_norm : (p : Rational) (v : List Rational) → DominatesSum (p ∷ v) → norm v ≤ℚ p
dominates_norm p v h = subst (λ s. s ≤ℚ p) (norm_is v) h

pub norm_dominated : (p : Rational) (v : List Rational) → norm v ≤ℚ p → DominatesSum (p ∷ v)
norm_dominated p v h = subst (λ s. s ≤ℚ p) (sym (norm_is v)) h

-- ---- products

product_above : (c p q : Rational) → abs_ℚ q ≤ℚ c → neg_ℚ (c *ℚ abs_ℚ p) ≤ℚ (p *ℚ q)
product_above c p q h =
    subst (λ x. neg_ℚ (c *ℚ abs_ℚ p) ≤ℚ x) (neg_ℚ-neg_ℚ (p *ℚ q))
    (neg_ℚ-≤ℚ (neg_ℚ (p *ℚ q)) (c
    *ℚ abs_ℚ p) (≤ℚ_trans (neg_ℚ (p *ℚ q)) (abs_ℚ q *ℚ abs_ℚ p) (c *ℚ abs_ℚ p)
    (subst (λ x. neg_ℚ (p *ℚ q) ≤ℚ x) (abs_ℚ-*ℚ p q ∙ *ℚ_comm (abs_ℚ p) (abs_ℚ q))
    (≤ℚ_abs_ℚ (p *ℚ q)).1) (≤ℚ-*ℚ (abs_ℚ q) c (abs_ℚ p) h (nonneg_abs_ℚ p))))

-- where the magnitudes of v are at most c
pub dot_above : (c : Rational) → zero_ℚ ≤ℚ c → (w v : List Rational) → All (λ q. abs_ℚ q ≤ℚ c) v
    → neg_ℚ (c *ℚ norm w) ≤ℚ dot w v
dot_above c n [] v h = ≤ℚ_from_≡ (neg_ℚ (c *ℚ zero_ℚ)) zero_ℚ (ap neg_ℚ (*ℚ-zero c) ∙ neg_ℚ-zero)
dot_above c n (p ∷ w) [] h =
    nonpos_neg (c *ℚ norm (p ∷ w)) (nonneg_mul c (norm (p ∷ w)) n (norm_nonneg (p ∷ w)))
dot_above c n (p ∷ w) (q ∷ v) h =
    subst (λ x. x ≤ℚ (p *ℚ q +ℚ dot w v)) (sym (ap neg_ℚ (*ℚ-+ℚ c (abs_ℚ p) (norm w))
    ∙ neg_ℚ-sum (c *ℚ abs_ℚ p) (c *ℚ norm w)))
    (≤ℚ-+ℚ (neg_ℚ (c *ℚ abs_ℚ p)) (p *ℚ q) (neg_ℚ (c *ℚ norm w)) (dot w v)
    (product_above c p q (All-head (λ q. abs_ℚ q ≤ℚ c) q v h))
    (dot_above c n w v (All-tail (λ q. abs_ℚ q ≤ℚ c) q v h)))

norm_step : (p q s d : Rational) → zero_ℚ ≤ℚ q → s ≤ℚ p → neg_ℚ (q *ℚ s) ≤ℚ d
    → zero_ℚ ≤ℚ (p *ℚ q +ℚ d)
norm_step p q s d n h k =
    subst (λ x. zero_ℚ ≤ℚ x) (same p q s d)
    (nonneg_add ((p -ℚ s) *ℚ q) (d -ℚ neg_ℚ (q *ℚ s))
    (nonneg_mul (p -ℚ s) q (nonneg_from_≤ℚ s p h) n) (nonneg_from_≤ℚ (neg_ℚ (q *ℚ s)) d k))
  where
    same : (p q s d : Rational) → (p -ℚ s) *ℚ q +ℚ (d -ℚ neg_ℚ (q *ℚ s)) ≡ p *ℚ q +ℚ d
    same = ring₄ _ (λ ρ. simp as_expression (by_ring ρ _ _ refl))

-- a vector of either norm cone with one of the other; the first number of v is nonnegative by
-- itself only where others follow
pub dot_norms : (w v : List Rational) → zero_ℚ ≤ℚ first_of v → DominatesSum w → DominatesEach v
    → zero_ℚ ≤ℚ dot w v
dot_norms [] v n s e = ≤ℚ_refl zero_ℚ
dot_norms (p ∷ w) [] n s e = ≤ℚ_refl zero_ℚ
dot_norms (p ∷ w) (q ∷ v) n s e =
    norm_step p q (norm w) (dot w v) n (dominates_norm p w s) (dot_above q n w v e)

pub first_nonneg : (v : List Rational) → 1 < length v → DominatesEach v → zero_ℚ ≤ℚ first_of v
first_nonneg [] a e = absurd (omega (arith, a))
first_nonneg (p ∷ []) a e = absurd (omega (arith, a))
first_nonneg (p ∷ q ∷ v) a e =
    ≤ℚ_trans zero_ℚ (abs_ℚ q) p (nonneg_abs_ℚ q) (All-head (λ x. abs_ℚ x ≤ℚ p) q v e)
