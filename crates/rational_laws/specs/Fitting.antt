-- What fits in 128 bits, and sums that fit whatever their size: with 0, and of numbers that fit.
use Rattle.std.specs.Prelude.{◌≡◌, ℕ, zero, suc, ◌*◌, ◌/◌, ◌^◌, ◌<◌, ℤ, pos, negsuc, ◌+ℤ◌, ◌*ℤ◌, neg_ℤ, unsigned_abs, refl}
use Rattle.std.proofs.Common.{sym, ◌∙◌, ap, ap₂, arith, subst, div-one, zero-mul}
use Rattle.std.proofs.lemmas.Int.{ints}
use Rattle.ratio_core.specs.Gcd.{gcd, gcd-one, gcd_swap}
use Rattle.ratio_core.specs.Rational.{Fits, Rational, SumFits, common_divisor, left_term, neg_ℚ, right_term, sum_denominator, sum_of_terms, whole_ℚ, zero_ℚ}
use Rattle.ratio_core.specs.RationalLaws.{reduce_reduced}
use Rattle.rational_laws.specs.Whole.{*ℤ_pos_one}

pub Fits_zero : Fits zero_ℚ
unfolding zero_ℚ whole_ℚ
Fits_zero = record { num = omega arith; den = omega arith }

pub size_neg : (z : ℤ) → unsigned_abs (neg_ℤ z) ≡ unsigned_abs z
size_neg (pos zero) = refl
size_neg (pos (suc n)) = refl
size_neg (negsuc n) = refl

-- the parts of a negation and of a magnitude
pub neg_ℚ_parts : (q : Rational) → ((neg_ℚ q).num ≡ neg_ℤ q.num) × ((neg_ℚ q).den ≡ q.den)
unfolding neg_ℚ
neg_ℚ_parts q =
    let parts = reduce_reduced (neg_ℤ q.num) q.den
    (q.reduced.0, ap (λ n. gcd n q.den) (size_neg q.num) ∙ q.reduced.1) in
    (ap (λ e. e.0) parts, ap (λ e. e.1) parts)

pub Fits_neg_ℚ : (q : Rational) → Fits q → Fits (neg_ℚ q)
Fits_neg_ℚ q f =
    record {
      num =
          subst (λ n. n < 2 ^ 127) (sym (ap unsigned_abs (neg_ℚ_parts q).0 ∙ size_neg q.num)) f.num;
      den = subst (λ n. n < 2 ^ 127) (sym (neg_ℚ_parts q).1) f.den;
    }

-- ---- sums with 0

-- where the denominators have no common divisor, the terms are the numerators, each times the
-- other's
-- denominator
module _ (p q : Rational) (apart : common_divisor p q ≡ 1) where
  left_apart : left_term p q ≡ p.num *ℤ pos q.den
  unfolding left_term
  left_apart = ap (λ k. p.num *ℤ pos k) (ap (λ g. q.den / g) apart ∙ div-one q.den)

  right_apart : right_term p q ≡ q.num *ℤ pos p.den
  unfolding right_term
  right_apart = ap (λ k. q.num *ℤ pos k) (ap (λ g. p.den / g) apart ∙ div-one p.den)

  denominator_apart : sum_denominator p q ≡ p.den * q.den
  unfolding sum_denominator
  denominator_apart =
      ap₂ ◌*◌ (ap (λ g. p.den / g) apart ∙ div-one p.den)
      (ap (λ k. q.den / k) (ap (gcd (unsigned_abs (sum_of_terms p q))) apart
      ∙ gcd-one (unsigned_abs (sum_of_terms p q))) ∙ div-one q.den)

  -- so the sum meets the rule for sums where these are numbers that fit
  pub SumFits_apart : (a b s : ℤ) (d : ℕ) → p.num *ℤ pos q.den ≡ a → q.num *ℤ pos p.den ≡ b
      → a +ℤ b ≡ s → p.den * q.den ≡ d → unsigned_abs a < 2 ^ 127 → unsigned_abs b < 2 ^ 127
      → unsigned_abs s < 2 ^ 127 → d < 2 ^ 127 → SumFits p q
  unfolding sum_of_terms
  SumFits_apart a b s d left right sum den a_fits b_fits s_fits d_fits = record {
    left = subst (λ z. unsigned_abs z < 2 ^ 127) (sym (left_apart ∙ left)) a_fits;
    right = subst (λ z. unsigned_abs z < 2 ^ 127) (sym (right_apart ∙ right)) b_fits;
    sum =
        subst (λ z. unsigned_abs z < 2 ^ 127)
        (sym (ap₂ ◌+ℤ◌ (left_apart ∙ left) (right_apart ∙ right) ∙ sum)) s_fits;
    denominator = subst (λ n. n < 2 ^ 127) (sym (denominator_apart ∙ den)) d_fits;
  }

-- so does a sum of 0 and a number that fits
pub SumFits_zero : (q : Rational) → Fits q → SumFits zero_ℚ q
unfolding common_divisor zero_ℚ whole_ℚ
SumFits_zero q f =
    SumFits_apart zero_ℚ q (gcd_swap 1 q.den ∙ gcd-one q.den) (pos 0) q.num q.num q.den
    (ap pos (zero-mul q.den)) (*ℤ_pos_one q.num) (zero_left q.num) (one_left q.den) (omega arith)
    f.num f.num f.den
  where
    zero_left : (a : ℤ) → pos 0 +ℤ a ≡ a
    zero_left a = omega (arith, ints)

    one_left : (k : ℕ) → 1 * k ≡ k
    one_left k = omega arith
