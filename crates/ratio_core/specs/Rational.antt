-- The rational numbers: what every number of the product is.
--
-- A `Rational` is a pair of whole numbers in lowest terms, with a positive denominator. So there is
-- one value for each number, and `≡` is equality of numbers. No width is spoken of but by `Fits`
-- and `SumFits`.
--     reduce n d                 n over d in lowest terms, and 0 where d is 0
--     fraction n d               the same, where d may be negative
--     +ℚ *ℚ -ℚ /ℚ neg_ℚ inverse_ℚ          the field, with 0 for the inverse of 0
--     ≤ℚ ‹ℚ rational_cmp rational_eq       the order, and its tests
-- Fits fits, SumFits sum_fits what 128 bits hold, and the rule for sums, each with its test
use Rattle.std.specs.Prelude.{◌≡◌, ℕ, zero, suc, ◌*◌, ◌/◌, ◌^◌, ◌<◌, Bool, true, false, ◌&&◌, nat_lt, ℤ, pos, negsuc, ◌+ℤ◌, ◌*ℤ◌, neg_ℤ, ◌≤ℤ◌, ◌<ℤ◌, int_div, unsigned_abs, refl}
use Rattle.std.specs.Coded.{Coded, coded×, coded_ℕ, coded_ℤ, ×_prop, le_prop}
use Rattle.std.specs.Int.{int_signum}
use Rattle.std.specs.Ordering.{int_cmp, eq_by_cmp}
use Rattle.std.specs.declared.cmp.Ordering.{Ordering}
use Rattle.std.proofs.Common.{◌∙◌, ap, zero-lt-suc}
use Rattle.std.proofs.Math.Nat.{ℕ_set}
use base.Stored.{coded_via}
use mathlib.Core.HLevel.{is_prop→PathP}
use Rattle.ratio_core.specs.Gcd.{gcd, gcd-one, coprime_parts, part_pos}

-- ---- the numbers

abbrev pub IsReduced : ℤ → ℕ → Type 0
IsReduced n d = (0 < d) × (gcd (unsigned_abs n) d ≡ 1)

pub record Rational : Type 0 where
  pub num : ℤ
  pub den : ℕ
  pub reduced : IsReduced num den

abbrev pub rational_parts : Rational → ℤ × ℕ
rational_parts q = (q.num, q.den)

pub same_parts : (p q : Rational) → rational_parts p ≡ rational_parts q → p ≡ q
same_parts p q e = λ i. record {
  num = (e i).0;
  den = (e i).1;
  reduced = is_prop→PathP (λ j. IsReduced (e j).0 (e j).1) (λ j. ×_prop le_prop (ℕ_set _ _))
      p.reduced q.reduced i;
}

-- a number's code is that of its parts
abbrev pub rational_code : Coded Rational
rational_code = coded_via (coded× coded_ℤ coded_ℕ) rational_parts same_parts

pub whole_reduced : (n : ℤ) → IsReduced n 1
whole_reduced n = (zero-lt-suc 0, gcd-one (unsigned_abs n))

-- a whole number
unfoldable pub whole_ℚ : ℤ → Rational
whole_ℚ n = record { num = n; den = 1; reduced = whole_reduced n }

unfoldable pub zero_ℚ : Rational
zero_ℚ = whole_ℚ (pos 0)

unfoldable pub one_ℚ : Rational
one_ℚ = whole_ℚ (pos 1)

-- ---- lowest terms

pub unsigned_abs-neg : (n : ℕ) → unsigned_abs (neg_ℤ (pos n)) ≡ n
unsigned_abs-neg zero = refl
unsigned_abs-neg (suc n) = refl

unsigned_abs-int_div : (n : ℤ) (g : ℕ) → unsigned_abs (int_div n (pos g)) ≡ unsigned_abs n / g
unsigned_abs-int_div (pos n) g = refl
unsigned_abs-int_div (negsuc n) g = unsigned_abs-neg (suc n / g)

pub lowest_terms : (n : ℤ) (d : ℕ) → 0 < d
    → IsReduced (int_div n (pos (gcd (unsigned_abs n) d))) (d / gcd (unsigned_abs n) d)
lowest_terms n d h = (
  part_pos (unsigned_abs n) d h,
  ap (λ m. gcd m (d / gcd (unsigned_abs n) d))
      (unsigned_abs-int_div n (gcd (unsigned_abs n) d)) ∙ coprime_parts (unsigned_abs n) d h,
)

-- n over d in lowest terms, and 0 where d is 0
unfoldable pub reduce : ℤ → ℕ → Rational
reduce n zero = zero_ℚ
reduce n (suc d) =
    let common = gcd (unsigned_abs n) (suc d) in
    record {
      num = int_div n (pos common);
      den = suc d / common;
      reduced = lowest_terms n (suc d) (zero-lt-suc d);
    }

-- the same, where d may be negative
unfoldable pub fraction : ℤ → ℤ → Rational
fraction n (pos d) = reduce n d
fraction n (negsuc d) = reduce (neg_ℤ n) (suc d)

-- ---- the field

infixl 65 ◌+ℚ◌
unfoldable pub ◌+ℚ◌ : Rational → Rational → Rational
p +ℚ q = reduce ((p.num *ℤ pos q.den) +ℤ (q.num *ℤ pos p.den)) (p.den * q.den)

infixl 70 ◌*ℚ◌
unfoldable pub ◌*ℚ◌ : Rational → Rational → Rational
p *ℚ q = reduce (p.num *ℤ q.num) (p.den * q.den)

unfoldable pub neg_ℚ : Rational → Rational
neg_ℚ q = reduce (neg_ℤ q.num) q.den

-- 1 over q, and 0 where q is 0
unfoldable pub inverse_ℚ : Rational → Rational
inverse_ℚ q = fraction (pos q.den) q.num

infixl 65 ◌-ℚ◌
abbrev pub ◌-ℚ◌ : Rational → Rational → Rational
p -ℚ q = p +ℚ neg_ℚ q

infixl 70 ◌/ℚ◌
abbrev pub ◌/ℚ◌ : Rational → Rational → Rational
p /ℚ q = p *ℚ inverse_ℚ q

-- the magnitude
unfoldable pub abs_ℚ : Rational → Rational
abs_ℚ q = reduce (pos (unsigned_abs q.num)) q.den

-- 1, 0 or -1, as q is above 0, 0 or below it
unfoldable pub sign_ℚ : Rational → ℤ
sign_ℚ q = int_signum q.num

-- ---- the order

infix 50 ◌≤ℚ◌ ◌‹ℚ◌
pub record ◌≤ℚ◌ (p q : Rational) : Type 0 where
  pub cross : (p.num *ℤ pos q.den) ≤ℤ (q.num *ℤ pos p.den)

pub record ◌‹ℚ◌ (p q : Rational) : Type 0 where
  pub cross : (p.num *ℤ pos q.den) <ℤ (q.num *ℤ pos p.den)

unfoldable pub rational_cmp : Rational → Rational → Ordering
rational_cmp p q = int_cmp (p.num *ℤ pos q.den) (q.num *ℤ pos p.den)

-- true exactly where p is q
unfoldable pub rational_eq : Rational → Rational → Bool
rational_eq = eq_by_cmp rational_cmp

-- ---- what fits in 128 bits

pub record Fits (q : Rational) : Type 0 where
  pub num : unsigned_abs q.num < 2 ^ 127
  pub den : q.den < 2 ^ 127

unfoldable pub fits : Rational → Bool
fits q = nat_lt (unsigned_abs q.num) (2 ^ 127) && nat_lt q.den (2 ^ 127)

-- the steps of a sum a/b + c/d: with g = gcd(b, d) the terms are a*(d/g) and c*(b/g), with the sum
-- s
unfoldable pub common_divisor : Rational → Rational → ℕ
common_divisor p q = gcd p.den q.den

unfoldable pub left_term : Rational → Rational → ℤ
left_term p q = p.num *ℤ pos (q.den / common_divisor p q)

unfoldable pub right_term : Rational → Rational → ℤ
right_term p q = q.num *ℤ pos (p.den / common_divisor p q)

unfoldable pub sum_of_terms : Rational → Rational → ℤ
sum_of_terms p q = left_term p q +ℤ right_term p q

-- (b/g) * (d/h), where h = gcd(s, g)
unfoldable pub sum_denominator : Rational → Rational → ℕ
sum_denominator p q =
    (p.den / common_divisor p q)
    * (q.den / gcd (unsigned_abs (sum_of_terms p q)) (common_divisor p q))

-- each step of the sum is at most 2^127-1 in magnitude
pub record SumFits (p q : Rational) : Type 0 where
  pub left : unsigned_abs (left_term p q) < 2 ^ 127
  pub right : unsigned_abs (right_term p q) < 2 ^ 127
  pub sum : unsigned_abs (sum_of_terms p q) < 2 ^ 127
  pub denominator : sum_denominator p q < 2 ^ 127

unfoldable pub sum_fits : Rational → Rational → Bool
sum_fits p q =
    nat_lt (unsigned_abs (left_term p q)) (2 ^ 127)
    && nat_lt (unsigned_abs (right_term p q)) (2 ^ 127)
    && nat_lt (unsigned_abs (sum_of_terms p q)) (2 ^ 127) && nat_lt (sum_denominator p q) (2 ^ 127)

-- ---- how a number is kept

-- the number of this sign and size
abbrev pub signed : Bool → ℕ → ℤ
signed false n = pos n
signed true n = neg_ℤ (pos n)

-- parts in lowest terms that 128 bits hold
pub record IsStored (n : ℤ) (d : ℕ) : Type 0 where
  pub reduced : IsReduced n d
  pub num : unsigned_abs n < 2 ^ 127
  pub den : d < 2 ^ 127
