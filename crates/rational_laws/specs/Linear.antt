-- Inequalities that are linear in given ones, by `omega`: all numbers are put over one denominator,
-- and what is left speaks of whole numbers. How to use it:
--     between : (p q r : Rational) → p ≤ℚ q → q ≤ℚ r → (p +ℚ q) ≤ℚ (r +ℚ q)
--     between = linear₃ _ (λ a b c e h k. simp as_scaled (omega (arith, ints, scales)))
-- A premise that has sums itself goes into the list of `omega` as `simp as_scaled at h`.
-- Where a multiplier is a variable, add up nonnegative numbers instead (`≤ℚ_by`).
use Rattle.std.specs.Prelude.{◌≡◌, ℕ, zero, suc, ◌+◌, ◌*◌, ◌<◌, ◌≤◌, ℤ, pos, ◌+ℤ◌, ◌*ℤ◌, neg_ℤ}
use Rattle.std.proofs.Common.{sym, ◌∙◌, ap, arith, subst}
use borrow.Author.Differences.{up, down, same_in, same_out, at_most_in, below_in, le_out, lt_out}
use Rattle.ratio_core.specs.Rational.{Rational, neg_ℚ, one_ℚ, reduce, whole_ℚ, zero_ℚ, ◌*ℚ◌, ◌+ℚ◌, ◌-ℚ◌, ◌≤ℚ◌, ◌‹ℚ◌}
use Rattle.ratio_core.specs.RationalLaws.{reduce_itself}
use Rattle.rational_laws.specs.Order.{≤ℚ_from_nonneg}
use Rattle.rational_laws.specs.Over.{over-+ℚ, over-neg_ℚ, over-whole_ℚ, over-zero_ℚ, over-‹ℚ_in, over-‹ℚ_out, over-≡_out, over-≤ℚ_in, over-≤ℚ_out, over₁, over₂, over₃, over₄, reduce-*ℚ}

-- a parts of one over e + 1
unfoldable pub scaled : ℕ → ℤ → Rational
scaled e a = reduce a (suc e)

module _ (e : ℕ) where
  above_lem : 0 < suc e
  above_lem = omega arith

  pub scaled-+ℚ : (a b : ℤ) → scaled e a +ℚ scaled e b ≡ scaled e (a +ℤ b)
  unfolding scaled
  scaled-+ℚ a b = over-+ℚ a b (suc e) above_lem

  pub scaled-neg_ℚ : (a : ℤ) → neg_ℚ (scaled e a) ≡ scaled e (neg_ℤ a)
  unfolding scaled
  scaled-neg_ℚ a = over-neg_ℚ a (suc e) above_lem

  -- a whole multiple
  pub scaled-*ℚ : (n a : ℤ) → whole_ℚ n *ℚ scaled e a ≡ scaled e (n *ℤ a)
  unfolding scaled whole_ℚ
  scaled-*ℚ n a = ap (λ x. x *ℚ reduce a (suc e)) (sym (reduce_itself (whole_ℚ n)))
      ∙ reduce-*ℚ n a 1 (suc e) (omega arith) above_lem ∙ ap (reduce (n *ℤ a)) (one_lem (suc e))
    where
      one_lem : (k : ℕ) → 1 * k ≡ k
      one_lem k = omega arith

  pub scaled_zero : zero_ℚ ≡ scaled e (pos 0)
  unfolding scaled
  scaled_zero = over-zero_ℚ (suc e) above_lem

  pub scaled_one : one_ℚ ≡ scaled e (pos (suc e))
  unfolding scaled one_ℚ
  scaled_one = over-whole_ℚ (pos 1) (suc e) above_lem
      ∙ ap (λ k. reduce (pos k) (suc e)) (one_lem (suc e))
    where
      one_lem : (k : ℕ) → 1 * k ≡ k
      one_lem k = omega arith

  pub scaled_whole : (n : ℤ) → whole_ℚ n ≡ scaled e (n *ℤ pos (suc e))
  unfolding scaled
  scaled_whole n = over-whole_ℚ n (suc e) above_lem

  -- ---- for `omega`: a whole number z is read as `up z - down z`

  pub scaled_le_out : (a b : ℤ) → scaled e a ≤ℚ scaled e b → up a + down b ≤ up b + down a
  unfolding scaled
  scaled_le_out a b h = le_out a b (over-≤ℚ_out a b (suc e) above_lem h)

  pub scaled_lt_out : (a b : ℤ) → scaled e a ‹ℚ scaled e b → up a + down b < up b + down a
  unfolding scaled
  scaled_lt_out a b h = lt_out a b (over-‹ℚ_out a b (suc e) above_lem h)

  pub scaled_same_out : (a b : ℤ) → scaled e a ≡ scaled e b → (up a ≡ up b) × (down a ≡ down b)
  unfolding scaled
  scaled_same_out a b h = same_out a b (over-≡_out a b (suc e) above_lem h)

  pub scaled_le_in : (a b : ℤ) → up a + down b ≤ up b + down a → scaled e a ≤ℚ scaled e b
  unfolding scaled
  scaled_le_in a b h = over-≤ℚ_in a b (suc e) above_lem (at_most_in a b h)

  pub scaled_lt_in : (a b : ℤ) → up a + down b < up b + down a → scaled e a ‹ℚ scaled e b
  unfolding scaled
  scaled_lt_in a b h = over-‹ℚ_in a b (suc e) above_lem (below_in a b h)

  pub scaled_same_in : (a b : ℤ) → up a + down b ≡ up b + down a → scaled e a ≡ scaled e b
  scaled_same_in a b h = ap (scaled e) (same_in a b h)

pub ruleset as_scaled = (scaled-+ℚ, scaled-neg_ℚ, scaled-*ℚ)

pub ruleset scales =
    (scaled_le_out, scaled_lt_out, scaled_same_out, scaled_le_in, scaled_lt_in, scaled_same_in)

-- ---- up to four numbers

pub linear₁ : (P : Rational → Type 0) → ((a : ℤ) (e : ℕ) → P (scaled e a)) → (p : Rational) → P p
unfolding scaled
linear₁ P h = over₁ P (λ a d above. at_suc a d above)
  where
    at_suc : (a : ℤ) (d : ℕ) → 0 < d → P (reduce a d)
    at_suc a zero above = absurd (omega arith)
    at_suc a (suc e) above = h a e

pub linear₂ : (P : Rational → Rational → Type 0) → ((a b : ℤ) (e : ℕ) → P (scaled e a) (scaled e b))
    → (p q : Rational) → P p q
unfolding scaled
linear₂ P h = over₂ P (λ a b d above. at_suc a b d above)
  where
    at_suc : (a b : ℤ) (d : ℕ) → 0 < d → P (reduce a d) (reduce b d)
    at_suc a b zero above = absurd (omega arith)
    at_suc a b (suc e) above = h a b e

pub linear₃ : (P : Rational → Rational → Rational → Type 0)
    → ((a b c : ℤ) (e : ℕ) → P (scaled e a) (scaled e b) (scaled e c)) → (p q r : Rational)
    → P p q r
unfolding scaled
linear₃ P h = over₃ P (λ a b c d above. at_suc a b c d above)
  where
    at_suc : (a b c : ℤ) (d : ℕ) → 0 < d → P (reduce a d) (reduce b d) (reduce c d)
    at_suc a b c zero above = absurd (omega arith)
    at_suc a b c (suc e) above = h a b c e

pub linear₄ : (P : Rational → Rational → Rational → Rational → Type 0)
    → ((a b c d : ℤ) (e : ℕ) → P (scaled e a) (scaled e b) (scaled e c) (scaled e d))
    → (p q r s : Rational) → P p q r s
unfolding scaled
linear₄ P h = over₄ P (λ a b c d k above. at_suc a b c d k above)
  where
    at_suc : (a b c d : ℤ) (k : ℕ) → 0 < k → P (reduce a k) (reduce b k) (reduce c k) (reduce d k)
    at_suc a b c d zero above = absurd (omega arith)
    at_suc a b c d (suc e) above = h a b c d e

-- ---- by a nonnegative sum

-- q is at least p where their difference is a number that isn't negative
pub ≤ℚ_by : (p q s : Rational) → zero_ℚ ≤ℚ s → q -ℚ p ≡ s → p ≤ℚ q
≤ℚ_by p q s h e = ≤ℚ_from_nonneg p q (subst (λ x. zero_ℚ ≤ℚ x) (sym e) h)
