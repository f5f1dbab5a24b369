-- Whole numbers of a bounded size: their sums, products and negations, and what of them fits.
use Rattle.std.specs.Prelude.{◌≡◌, ℕ, ◌+◌, ◌*◌, ◌/◌, ◌^◌, ◌<◌, ◌≤◌, ℤ, pos, ◌+ℤ◌, ◌*ℤ◌, unsigned_abs, refl}
use Rattle.std.proofs.Common.{sym, ap, ap₂, subst, ◌∙◌, arith, div-one}
use Rattle.std.proofs.Math.Nat.{mul-le-mul}
use Rattle.std.proofs.lemmas.Int.{ints, unsigned_abs-mul}
use Rattle.ratio_core.specs.Gcd.{gcd, gcd-one}
use Rattle.ratio_core.specs.Rational.{Fits, Rational, SumFits, common_divisor, left_term, neg_ℚ, one_ℚ, right_term, same_parts, sum_denominator, sum_of_terms, whole_ℚ, zero_ℚ, ◌*ℚ◌, ◌+ℚ◌}
use Rattle.rational_laws.specs.Fitting.{neg_ℚ_parts, size_neg}
use Rattle.rational_laws.specs.Ring.{whole_ℚ-*ℤ, whole_ℚ-+ℤ}
use Rattle.rational_laws.specs.Whole.{*ℤ_pos_one}
use Rattle.small_number_laws.specs.Whole.{IsWholeWithin}

-- ---- sizes of integers

size_sum : (m n : ℤ) → unsigned_abs (m +ℤ n) ≤ unsigned_abs m + unsigned_abs n
size_sum m n = omega (arith, ints)

-- ---- whole numbers

is_whole : (q : Rational) → q.den ≡ 1 → q ≡ whole_ℚ q.num
unfolding whole_ℚ
is_whole q e = same_parts q (whole_ℚ q.num) (λ i. (q.num, e i))

made_whole : (n : ℤ) (bound : ℕ) → unsigned_abs n ≤ bound → IsWholeWithin bound (whole_ℚ n)
unfolding whole_ℚ
made_whole n bound h = record { whole = refl; size = h }

pub whole_zero : IsWholeWithin 0 zero_ℚ
unfolding zero_ℚ whole_ℚ
whole_zero = record { whole = refl; size = omega arith }

pub whole_one : IsWholeWithin 1 one_ℚ
unfolding one_ℚ whole_ℚ
whole_one = record { whole = refl; size = omega arith }

pub whole_more : (a b : ℕ) (q : Rational) → a ≤ b → IsWholeWithin a q → IsWholeWithin b q
whole_more a b q h w = record { whole = w.whole; size = omega (arith, h, w.size) }

-- a whole number is within its own size
pub whole_itself : (q : Rational) → q.den ≡ 1 → IsWholeWithin (unsigned_abs q.num) q
whole_itself q h = record { whole = h; size = omega arith }

pub whole_sum : (a b : ℕ) (p q : Rational) → IsWholeWithin a p → IsWholeWithin b q
    → IsWholeWithin (a + b) (p +ℚ q)
whole_sum a b p q h k =
    subst (IsWholeWithin (a + b))
    (whole_ℚ-+ℤ p.num q.num ∙ sym (ap₂ ◌+ℚ◌ (is_whole p h.whole) (is_whole q k.whole)))
    (made_whole (p.num +ℤ q.num) (a + b)
    (omega (arith, size_sum p.num q.num, h.size, k.size)))

pub whole_product : (a b : ℕ) (p q : Rational) → IsWholeWithin a p → IsWholeWithin b q
    → IsWholeWithin (a * b) (p *ℚ q)
whole_product a b p q h k =
    let within : unsigned_abs p.num * unsigned_abs q.num ≤ a * b = mul-le-mul h.size k.size in
    subst (IsWholeWithin (a * b))
    (whole_ℚ-*ℤ p.num q.num ∙ sym (ap₂ ◌*ℚ◌ (is_whole p h.whole) (is_whole q k.whole)))
    (made_whole (p.num *ℤ q.num) (a * b)
    (omega (arith, unsigned_abs-mul p.num q.num, within)))

pub whole_neg : (a : ℕ) (q : Rational) → IsWholeWithin a q → IsWholeWithin a (neg_ℚ q)
whole_neg a q h =
    record {
      whole = (neg_ℚ_parts q).1 ∙ h.whole;
      size = omega (arith, ap unsigned_abs (neg_ℚ_parts q).0 ∙ size_neg q.num, h.size);
    }

-- ---- what fits

pub whole_fits : (a : ℕ) (q : Rational) → IsWholeWithin a q → a < 2 ^ 127 → Fits q
whole_fits a q h lt =
    record { num = omega (arith, h.size, lt); den = omega (arith, h.whole) }

module _ (p q : Rational) (h : p.den ≡ 1) (k : q.den ≡ 1) where
  one_divisor : common_divisor p q ≡ 1
  unfolding common_divisor
  one_divisor = ap₂ gcd h k ∙ gcd-one 1

  left_is : left_term p q ≡ p.num
  unfolding left_term
  left_is =
      ap (λ n. p.num *ℤ pos n) (ap₂ ◌/◌ k one_divisor ∙ div-one 1) ∙ *ℤ_pos_one p.num

  right_is : right_term p q ≡ q.num
  unfolding right_term
  right_is =
      ap (λ n. q.num *ℤ pos n) (ap₂ ◌/◌ h one_divisor ∙ div-one 1) ∙ *ℤ_pos_one q.num

  sum_is : sum_of_terms p q ≡ p.num +ℤ q.num
  unfolding sum_of_terms
  sum_is = ap₂ ◌+ℤ◌ left_is right_is

  denominator_is : sum_denominator p q ≡ 1
  unfolding sum_denominator
  denominator_is =
      ap₂ ◌*◌ (ap₂ ◌/◌ h one_divisor ∙ div-one 1)
      (ap₂ ◌/◌ k (ap (gcd (unsigned_abs (sum_of_terms p q))) one_divisor
      ∙ gcd-one (unsigned_abs (sum_of_terms p q))) ∙ div-one 1)

-- the sum of whole numbers fits where their sizes do
pub whole_sum_fits : (a b : ℕ) (p q : Rational) → IsWholeWithin a p → IsWholeWithin b q
    → a + b < 2 ^ 127 → SumFits p q
whole_sum_fits a b p q h k lt =
    let left = ap unsigned_abs (left_is p q h.whole k.whole) in
    let right = ap unsigned_abs (right_is p q h.whole k.whole) in
    let sum = ap unsigned_abs (sum_is p q h.whole k.whole) in
    record {
      left = omega (arith, left, h.size, lt);
      right = omega (arith, right, k.size, lt);
      sum = omega (arith, sum, size_sum p.num q.num, h.size, k.size, lt);
      denominator = omega (arith, denominator_is p q h.whole k.whole);
    }
