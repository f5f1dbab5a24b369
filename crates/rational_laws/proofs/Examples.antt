-- How equations and inequalities of rational numbers are proved in one line. docs/PROVING.md
-- explains each.
use Rattle.std.proofs.Common.{◌≡◌, pos, refl, arith}
use Rattle.std.proofs.lemmas.Int.{ints}
use Rattle.ratio_core.specs.Rational.{Rational, one_ℚ, whole_ℚ, zero_ℚ, ◌*ℚ◌, ◌+ℚ◌, ◌-ℚ◌, ◌≤ℚ◌, ◌‹ℚ◌}
use Rattle.rational_laws.specs.Field.{ring_ℚ}
use Rattle.rational_laws.specs.Linear.{as_scaled, linear₃, scaled_zero, scales, ≤ℚ_by}
use Rattle.rational_laws.specs.Order.{nonneg_add, nonneg_from_≤ℚ, nonneg_mul}
use Rattle.rational_laws.specs.Ring.{as_expression, by_ring, one_as, ring₂, ring₃, ring₄, whole_as}

-- a small equation, by the laws alone
regrouped : (a b c : Rational) → (a +ℚ b) *ℚ c +ℚ zero_ℚ ≡ c *ℚ b +ℚ a *ℚ c
regrouped a b c = simp ring_ℚ

-- an equation of polynomials
square_of_sum : (a b : Rational) → (a +ℚ b) *ℚ (a +ℚ b)
    ≡ a *ℚ a +ℚ (whole_ℚ (pos 2) *ℚ a *ℚ b +ℚ b *ℚ b)
square_of_sum = ring₂ _ (λ ρ. simp (as_expression, whole_as ρ) (by_ring ρ _ _ refl))

difference_of_squares : (a b : Rational) → (a +ℚ b) *ℚ (a -ℚ b) ≡ a *ℚ a -ℚ b *ℚ b
difference_of_squares = ring₂ _ (λ ρ. simp as_expression (by_ring ρ _ _ refl))

pivot_entry : (a b c d : Rational) → (a *ℚ d -ℚ b *ℚ c) *ℚ (a +ℚ one_ℚ)
    ≡ a *ℚ (a *ℚ d) +ℚ a *ℚ d -ℚ (b *ℚ c *ℚ a +ℚ b *ℚ c)
pivot_entry = ring₄ _ (λ ρ. simp (as_expression, one_as ρ) (by_ring ρ _ _ refl))

-- an inequality linear in two others
between : (p q r : Rational) → p ≤ℚ q → q ≤ℚ r → (p +ℚ q) ≤ℚ (r +ℚ q)
between = linear₃ _ (λ a b c e h k. simp as_scaled (omega (arith, ints, scales)))

doubled : (p q r : Rational) → (p +ℚ q) ≤ℚ r → r ‹ℚ (q -ℚ p) → (whole_ℚ (pos 2) *ℚ p) ‹ℚ zero_ℚ
doubled =
    linear₃ _ (λ a b c e h k. simp (as_scaled, scaled_zero e)
    (omega (arith, ints, scales, simp as_scaled at h, simp as_scaled at k)))

-- one whose multiplier is a variable
weighted : (p q y : Rational) → p ≤ℚ q → zero_ℚ ≤ℚ y → (y *ℚ p +ℚ p) ≤ℚ (y *ℚ q +ℚ q)
weighted p q y h k =
    ≤ℚ_by _ _ (y *ℚ (q -ℚ p) +ℚ (q -ℚ p))
    (nonneg_add _ _ (nonneg_mul y (q -ℚ p) k (nonneg_from_≤ℚ p q h)) (nonneg_from_≤ℚ p q h))
    (ring₃ (λ p q y. (y *ℚ q +ℚ q) -ℚ (y *ℚ p +ℚ p) ≡ y *ℚ (q -ℚ p) +ℚ (q -ℚ p))
    (λ ρ. simp as_expression (by_ring ρ _ _ refl)) p q y)
