-- The order of the rational numbers, and how it goes with sums, products and magnitudes.
use Rattle.std.specs.Prelude.{◌≡◌, ℕ, zero, suc, ◌*◌, ◌<◌, ◌⊎◌, ℤ, pos, negsuc, ◌+ℤ◌, ◌*ℤ◌, neg_ℤ, ◌≤ℤ◌, ◌<ℤ◌, unsigned_abs, refl}
use Rattle.std.proofs.Common.{sym, ◌∙◌, ap, ap₂, arith, mul-pos, subst, subst₂, inl, inr, Ordering, Less, Equal, Greater}
use Rattle.std.proofs.lemmas.Int.{ints}
use Rattle.std.specs.Ordering.{MatchOrdering}
use borrow.Author.Differences.{at_most_in, below_in, le_out, lt_out}
use Rattle.ratio_core.specs.Rational.{Rational, abs_ℚ, fraction, inverse_ℚ, neg_ℚ, one_ℚ, rational_cmp, reduce, whole_ℚ, zero_ℚ, ◌*ℚ◌, ◌+ℚ◌, ◌-ℚ◌, ◌≤ℚ◌, ◌‹ℚ◌}
use Rattle.ratio_core.specs.RationalLaws.{rational_ranks, reduce_itself, same_from_cross, times_is}
use Rattle.rational_laws.specs.Field.{*ℚ--ℚ, *ℚ_comm, *ℚ-neg_ℚ, +ℚ-neg_ℚ, neg_ℚ-*ℚ, neg_ℚ-neg_ℚ, neg_ℚ-sum, neg_ℚ-zero, zero-*ℚ, zero-+ℚ}
use Rattle.rational_laws.specs.Over.{over-+ℚ, over-neg_ℚ, over-zero_ℚ, over-‹ℚ_in, over-‹ℚ_out, over-≤ℚ_in, over-≤ℚ_out, over₂, over₃, over₄}

-- ---- an order

pub ≤ℚ_refl : (p : Rational) → p ≤ℚ p
≤ℚ_refl p = record { cross = omega (arith, ints) }

pub ≤ℚ_from_≡ : (p q : Rational) → p ≡ q → p ≤ℚ q
≤ℚ_from_≡ p q e = subst (λ x. p ≤ℚ x) e (≤ℚ_refl p)

pub ≤ℚ_from_‹ℚ : (p q : Rational) → p ‹ℚ q → p ≤ℚ q
≤ℚ_from_‹ℚ p q h = record { cross = omega (arith, ints, h.cross) }

pub ≤ℚ_antisymm : (p q : Rational) → p ≤ℚ q → q ≤ℚ p → p ≡ q
≤ℚ_antisymm p q h k = same_from_cross p q (omega (arith, ints, h.cross, k.cross))

pub ≤ℚ_trans : (p q r : Rational) → p ≤ℚ q → q ≤ℚ r → p ≤ℚ r
≤ℚ_trans =
    over₃ (λ p q r. p ≤ℚ q → q ≤ℚ r → p ≤ℚ r)
    (λ a b c d above h k. over-≤ℚ_in a c d above (omega
    (arith, ints, over-≤ℚ_out a b d above h, over-≤ℚ_out b c d above k)))

pub ‹ℚ-≤ℚ_trans : (p q r : Rational) → p ‹ℚ q → q ≤ℚ r → p ‹ℚ r
‹ℚ-≤ℚ_trans =
    over₃ (λ p q r. p ‹ℚ q → q ≤ℚ r → p ‹ℚ r)
    (λ a b c d above h k. over-‹ℚ_in a c d above (omega
    (arith, ints, over-‹ℚ_out a b d above h, over-≤ℚ_out b c d above k)))

pub ≤ℚ-‹ℚ_trans : (p q r : Rational) → p ≤ℚ q → q ‹ℚ r → p ‹ℚ r
≤ℚ-‹ℚ_trans =
    over₃ (λ p q r. p ≤ℚ q → q ‹ℚ r → p ‹ℚ r)
    (λ a b c d above h k. over-‹ℚ_in a c d above (omega
    (arith, ints, over-≤ℚ_out a b d above h, over-‹ℚ_out b c d above k)))

cases_lem : (p q : Rational) (r : Ordering) → MatchOrdering r (p ‹ℚ q) (p ≡ q) (q ‹ℚ p)
    → (p ≤ℚ q) ⊎ (q ‹ℚ p)
cases_lem p q Less h = inl (≤ℚ_from_‹ℚ p q h)
cases_lem p q Equal h = inl (≤ℚ_from_≡ p q h)
cases_lem p q Greater h = inr h

-- one of two numbers is at most the other
pub ≤ℚ_or_‹ℚ : (p q : Rational) → (p ≤ℚ q) ⊎ (q ‹ℚ p)
≤ℚ_or_‹ℚ p q = cases_lem p q (rational_cmp p q) (rational_ranks p q)

pub ≤ℚ_total : (p q : Rational) → (p ≤ℚ q) ⊎ (q ≤ℚ p)
≤ℚ_total p q = by_cases (≤ℚ_or_‹ℚ p q)
  where
    by_cases : (p ≤ℚ q) ⊎ (q ‹ℚ p) → (p ≤ℚ q) ⊎ (q ≤ℚ p)
    by_cases (inl h) = inl h
    by_cases (inr h) = inr (≤ℚ_from_‹ℚ q p h)

pub not_‹ℚ_from_≤ℚ : (p q : Rational) → p ≤ℚ q → ¬ (q ‹ℚ p)
not_‹ℚ_from_≤ℚ p q h k = omega (arith, ints, h.cross, k.cross)

pub ≤ℚ_from_not_‹ℚ : (p q : Rational) → ¬ (q ‹ℚ p) → p ≤ℚ q
≤ℚ_from_not_‹ℚ p q n = by_cases (≤ℚ_or_‹ℚ p q)
  where
    by_cases : (p ≤ℚ q) ⊎ (q ‹ℚ p) → p ≤ℚ q
    by_cases (inl h) = h
    by_cases (inr h) = absurd (n h)

pub ‹ℚ_from_not_≤ℚ : (p q : Rational) → ¬ (q ≤ℚ p) → p ‹ℚ q
‹ℚ_from_not_≤ℚ p q n = by_cases (≤ℚ_or_‹ℚ q p)
  where
    by_cases : (q ≤ℚ p) ⊎ (p ‹ℚ q) → p ‹ℚ q
    by_cases (inl h) = absurd (n h)
    by_cases (inr h) = h

pub ‹ℚ_from_≤ℚ_and_not : (p q : Rational) → p ≤ℚ q → ¬ (p ≡ q) → p ‹ℚ q
‹ℚ_from_≤ℚ_and_not p q h n = ‹ℚ_from_not_≤ℚ p q (λ k. n (≤ℚ_antisymm p q h k))

-- ---- sums

pub ≤ℚ-+ℚ : (p q r s : Rational) → p ≤ℚ q → r ≤ℚ s → (p +ℚ r) ≤ℚ (q +ℚ s)
≤ℚ-+ℚ =
    over₄ (λ p q r s. p ≤ℚ q → r ≤ℚ s → (p +ℚ r) ≤ℚ (q +ℚ s))
    (λ a b c e d above h k.
    subst₂ (λ x y. x ≤ℚ y) (sym (over-+ℚ a c d above)) (sym (over-+ℚ b e d above))
    (over-≤ℚ_in (a +ℤ c) (b +ℤ e) d above (omega (
      arith,
      ints,
      over-≤ℚ_out a b d above h,
      over-≤ℚ_out c e d above k,
    ))))

pub ‹ℚ-+ℚ : (p q r s : Rational) → p ‹ℚ q → r ≤ℚ s → (p +ℚ r) ‹ℚ (q +ℚ s)
‹ℚ-+ℚ =
    over₄ (λ p q r s. p ‹ℚ q → r ≤ℚ s → (p +ℚ r) ‹ℚ (q +ℚ s))
    (λ a b c e d above h k.
    subst₂ (λ x y. x ‹ℚ y) (sym (over-+ℚ a c d above)) (sym (over-+ℚ b e d above))
    (over-‹ℚ_in (a +ℤ c) (b +ℤ e) d above (omega (
      arith,
      ints,
      over-‹ℚ_out a b d above h,
      over-≤ℚ_out c e d above k,
    ))))

pub ≤ℚ-+ℚ_right : (p q r : Rational) → p ≤ℚ q → (p +ℚ r) ≤ℚ (q +ℚ r)
≤ℚ-+ℚ_right p q r h = ≤ℚ-+ℚ p q r r h (≤ℚ_refl r)

pub ≤ℚ-+ℚ_left : (p q r : Rational) → p ≤ℚ q → (r +ℚ p) ≤ℚ (r +ℚ q)
≤ℚ-+ℚ_left p q r h = ≤ℚ-+ℚ r r p q (≤ℚ_refl r) h

pub nonneg_add : (p q : Rational) → zero_ℚ ≤ℚ p → zero_ℚ ≤ℚ q → zero_ℚ ≤ℚ (p +ℚ q)
nonneg_add p q h k = subst (λ x. x ≤ℚ (p +ℚ q)) (zero-+ℚ zero_ℚ) (≤ℚ-+ℚ zero_ℚ p zero_ℚ q h k)

pub neg_ℚ-≤ℚ : (p q : Rational) → p ≤ℚ q → neg_ℚ q ≤ℚ neg_ℚ p
neg_ℚ-≤ℚ =
    over₂ (λ p q. p ≤ℚ q → neg_ℚ q ≤ℚ neg_ℚ p)
    (λ a b d above h.
    subst₂ (λ x y. x ≤ℚ y) (sym (over-neg_ℚ b d above)) (sym (over-neg_ℚ a d above))
    (over-≤ℚ_in (neg_ℤ b) (neg_ℤ a) d above (omega (arith, ints, over-≤ℚ_out a b d above h))))

pub neg_ℚ-‹ℚ : (p q : Rational) → p ‹ℚ q → neg_ℚ q ‹ℚ neg_ℚ p
neg_ℚ-‹ℚ =
    over₂ (λ p q. p ‹ℚ q → neg_ℚ q ‹ℚ neg_ℚ p)
    (λ a b d above h.
    subst₂ (λ x y. x ‹ℚ y) (sym (over-neg_ℚ b d above)) (sym (over-neg_ℚ a d above))
    (over-‹ℚ_in (neg_ℤ b) (neg_ℤ a) d above (omega (arith, ints, over-‹ℚ_out a b d above h))))

pub nonneg_neg : (p : Rational) → p ≤ℚ zero_ℚ → zero_ℚ ≤ℚ neg_ℚ p
nonneg_neg p h = subst (λ x. x ≤ℚ neg_ℚ p) neg_ℚ-zero (neg_ℚ-≤ℚ p zero_ℚ h)

pub nonpos_neg : (p : Rational) → zero_ℚ ≤ℚ p → neg_ℚ p ≤ℚ zero_ℚ
nonpos_neg p h = subst (λ x. neg_ℚ p ≤ℚ x) neg_ℚ-zero (neg_ℚ-≤ℚ zero_ℚ p h)

-- ---- p ≤ q against 0 ≤ q - p

pub nonneg_from_≤ℚ : (p q : Rational) → p ≤ℚ q → zero_ℚ ≤ℚ (q -ℚ p)
nonneg_from_≤ℚ p q h = subst (λ x. x ≤ℚ (q -ℚ p)) (+ℚ-neg_ℚ p) (≤ℚ-+ℚ_right p q (neg_ℚ p) h)

pub ≤ℚ_from_nonneg : (p q : Rational) → zero_ℚ ≤ℚ (q -ℚ p) → p ≤ℚ q
≤ℚ_from_nonneg =
    over₂ (λ p q. zero_ℚ ≤ℚ (q -ℚ p) → p ≤ℚ q)
    (λ a b d above h.
    let difference : reduce b d -ℚ reduce a d ≡ reduce (b +ℤ neg_ℤ a) d =
    ap (λ x. reduce b d +ℚ x) (over-neg_ℚ a d above) ∙ over-+ℚ b (neg_ℤ a) d above in
    let moved : reduce (pos 0) d ≤ℚ reduce (b +ℤ neg_ℤ a) d =
    subst₂ (λ x y. x ≤ℚ y) (over-zero_ℚ d above) difference h in
    over-≤ℚ_in a b d above (omega (arith, ints, over-≤ℚ_out (pos 0) (b +ℤ neg_ℤ a) d above moved)))

-- ---- signs

zero_cross : (q : Rational) → zero_ℚ ≤ℚ q → pos 0 ≤ℤ q.num
unfolding zero_ℚ whole_ℚ
zero_cross q h = omega (arith, ints, le_out _ _ h.cross, times_is q.num 1)

from_num : (q : Rational) → pos 0 ≤ℤ q.num → zero_ℚ ≤ℚ q
unfolding zero_ℚ whole_ℚ
from_num q h = record { cross = at_most_in _ _ (omega (arith, ints, times_is q.num 1)) }

above_cross : (q : Rational) → zero_ℚ ‹ℚ q → pos 0 <ℤ q.num
unfolding zero_ℚ whole_ℚ
above_cross q h = omega (arith, ints, lt_out _ _ h.cross, times_is q.num 1)

from_above : (q : Rational) → pos 0 <ℤ q.num → zero_ℚ ‹ℚ q
unfolding zero_ℚ whole_ℚ
from_above q h = record { cross = below_in _ _ (omega (arith, ints, times_is q.num 1)) }

-- a number and its numerator have one sign
pub nonneg_num : (q : Rational) → (zero_ℚ ≤ℚ q → pos 0 ≤ℤ q.num) × (pos 0 ≤ℤ q.num → zero_ℚ ≤ℚ q)
nonneg_num q = (zero_cross q, from_num q)

pub above_num : (q : Rational) → (zero_ℚ ‹ℚ q → pos 0 <ℤ q.num) × (pos 0 <ℤ q.num → zero_ℚ ‹ℚ q)
above_num q = (above_cross q, from_above q)

-- ---- products

nonneg_lem : (x y : ℤ) → pos 0 ≤ℤ x → pos 0 ≤ℤ y → pos 0 ≤ℤ (x *ℤ y)
nonneg_lem (pos a) (pos b) h k = omega (arith, ints)
nonneg_lem (pos a) (negsuc b) h k = absurd (omega (arith, ints))
nonneg_lem (negsuc a) y h k = absurd (omega (arith, ints))

above_lem : (x y : ℤ) → pos 0 <ℤ x → pos 0 <ℤ y → pos 0 <ℤ (x *ℤ y)
above_lem (pos a) (pos b) h k =
    let product : 0 < a * b = mul-pos (omega (arith, ints)) (omega (arith, ints))
    in omega (arith, ints)
above_lem (pos a) (negsuc b) h k = absurd (omega (arith, ints))
above_lem (negsuc a) y h k = absurd (omega (arith, ints))

pub nonneg_mul : (p q : Rational) → zero_ℚ ≤ℚ p → zero_ℚ ≤ℚ q → zero_ℚ ≤ℚ (p *ℚ q)
unfolding ◌*ℚ◌
nonneg_mul p q h k =
    subst (λ x. x ≤ℚ (p *ℚ q)) (sym (over-zero_ℚ (p.den * q.den) (mul-pos p.reduced.0 q.reduced.0)))
    (over-≤ℚ_in (pos 0) (p.num *ℤ q.num) (p.den * q.den) (mul-pos p.reduced.0 q.reduced.0)
    (nonneg_lem p.num q.num (zero_cross p h) (zero_cross q k)))

difference_times : (p q r : Rational) → r *ℚ (q -ℚ p) ≡ (q *ℚ r) -ℚ (p *ℚ r)
difference_times p q r = *ℚ--ℚ r q p ∙ ap₂ (λ x y. x -ℚ y) (*ℚ_comm r q) (*ℚ_comm r p)

-- an inequality times a nonnegative number
pub ≤ℚ-*ℚ : (p q r : Rational) → p ≤ℚ q → zero_ℚ ≤ℚ r → (p *ℚ r) ≤ℚ (q *ℚ r)
≤ℚ-*ℚ p q r h k =
    ≤ℚ_from_nonneg (p *ℚ r) (q
    *ℚ r) (subst (λ x. zero_ℚ ≤ℚ x) (difference_times p q r)
    (nonneg_mul r (q -ℚ p) k (nonneg_from_≤ℚ p q h)))

pub ≤ℚ-*ℚ_left : (p q r : Rational) → p ≤ℚ q → zero_ℚ ≤ℚ r → (r *ℚ p) ≤ℚ (r *ℚ q)
≤ℚ-*ℚ_left p q r h k = subst₂ (λ x y. x ≤ℚ y) (*ℚ_comm p r) (*ℚ_comm q r) (≤ℚ-*ℚ p q r h k)

-- and times one that isn't positive
pub ≤ℚ-*ℚ_nonpos : (p q r : Rational) → p ≤ℚ q → r ≤ℚ zero_ℚ → (q *ℚ r) ≤ℚ (p *ℚ r)
≤ℚ-*ℚ_nonpos p q r h k =
    subst₂ (λ x y. x ≤ℚ y) (turn q) (turn p) (neg_ℚ-≤ℚ (p *ℚ neg_ℚ r) (q *ℚ neg_ℚ r)
    (≤ℚ-*ℚ p q (neg_ℚ r) h (nonneg_neg r k)))
  where
    turn : (x : Rational) → neg_ℚ (x *ℚ neg_ℚ r) ≡ x *ℚ r
    turn x = ap neg_ℚ (*ℚ-neg_ℚ x r) ∙ neg_ℚ-neg_ℚ (x *ℚ r)

pub nonneg_mul_nonpos : (p q : Rational) → p ≤ℚ zero_ℚ → q ≤ℚ zero_ℚ → zero_ℚ ≤ℚ (p *ℚ q)
nonneg_mul_nonpos p q h k = subst (λ x. x ≤ℚ (p *ℚ q)) (zero-*ℚ q) (≤ℚ-*ℚ_nonpos p zero_ℚ q h k)

pub nonpos_mul : (p q : Rational) → zero_ℚ ≤ℚ p → q ≤ℚ zero_ℚ → (p *ℚ q) ≤ℚ zero_ℚ
nonpos_mul p q h k = subst (λ x. (p *ℚ q) ≤ℚ x) (zero-*ℚ q) (≤ℚ-*ℚ_nonpos zero_ℚ p q h k)

pub zero_‹ℚ_one : zero_ℚ ‹ℚ one_ℚ
unfolding zero_ℚ one_ℚ whole_ℚ
zero_‹ℚ_one = record { cross = below_in _ _ (omega arith) }

-- ---- the inverse of a positive number

above_inverse_lem : (z : ℤ) (d : ℕ) → 0 < d → pos 0 <ℤ z → zero_ℚ ‹ℚ fraction (pos d) z
unfolding fraction
above_inverse_lem (pos zero) d h k = absurd (omega (arith, ints))
above_inverse_lem (pos (suc n)) d h k =
    subst (λ x. x ‹ℚ reduce (pos d) (suc n)) (sym (over-zero_ℚ (suc n) (omega arith)))
    (over-‹ℚ_in (pos 0) (pos d) (suc n) (omega arith) (omega (arith, ints)))
above_inverse_lem (negsuc n) d h k = absurd (omega (arith, ints))

pub above_inverse : (q : Rational) → zero_ℚ ‹ℚ q → zero_ℚ ‹ℚ inverse_ℚ q
unfolding inverse_ℚ
above_inverse q h = above_inverse_lem q.num q.den q.reduced.0 (above_cross q h)

-- ---- magnitudes

size_nonneg : (z : ℤ) → pos 0 ≤ℤ z → pos (unsigned_abs z) ≡ z
size_nonneg (pos n) h = refl
size_nonneg (negsuc n) h = absurd (omega (arith, ints))

size_nonpos : (z : ℤ) → z ≤ℤ pos 0 → pos (unsigned_abs z) ≡ neg_ℤ z
size_nonpos (pos zero) h = refl
size_nonpos (pos (suc n)) h = absurd (omega (arith, ints))
size_nonpos (negsuc n) h = refl

nonpos_cross : (q : Rational) → q ≤ℚ zero_ℚ → q.num ≤ℤ pos 0
unfolding zero_ℚ whole_ℚ
nonpos_cross q h = omega (arith, ints, le_out _ _ h.cross, times_is q.num 1)

pub abs_ℚ_nonneg : (q : Rational) → zero_ℚ ≤ℚ q → abs_ℚ q ≡ q
unfolding abs_ℚ
abs_ℚ_nonneg q h = ap (λ z. reduce z q.den) (size_nonneg q.num (zero_cross q h)) ∙ reduce_itself q

pub abs_ℚ_nonpos : (q : Rational) → q ≤ℚ zero_ℚ → abs_ℚ q ≡ neg_ℚ q
unfolding abs_ℚ neg_ℚ
abs_ℚ_nonpos q h = ap (λ z. reduce z q.den) (size_nonpos q.num (nonpos_cross q h))

pub nonneg_abs_ℚ : (q : Rational) → zero_ℚ ≤ℚ abs_ℚ q
nonneg_abs_ℚ q = by_sign (≤ℚ_total zero_ℚ q)
  where
    by_sign : (zero_ℚ ≤ℚ q) ⊎ (q ≤ℚ zero_ℚ) → zero_ℚ ≤ℚ abs_ℚ q
    by_sign (inl h) = subst (λ x. zero_ℚ ≤ℚ x) (sym (abs_ℚ_nonneg q h)) h
    by_sign (inr h) = subst (λ x. zero_ℚ ≤ℚ x) (sym (abs_ℚ_nonpos q h)) (nonneg_neg q h)

-- a number and its negation are at most its magnitude
pub ≤ℚ_abs_ℚ : (q : Rational) → (q ≤ℚ abs_ℚ q) × (neg_ℚ q ≤ℚ abs_ℚ q)
≤ℚ_abs_ℚ q = by_sign (≤ℚ_total zero_ℚ q)
  where
    by_sign : (zero_ℚ ≤ℚ q) ⊎ (q ≤ℚ zero_ℚ) → (q ≤ℚ abs_ℚ q) × (neg_ℚ q ≤ℚ abs_ℚ q)
    by_sign (inl h) = (
      ≤ℚ_from_≡ q (abs_ℚ q) (sym (abs_ℚ_nonneg q h)),
      ≤ℚ_trans (neg_ℚ q) zero_ℚ
          (abs_ℚ q) (nonpos_neg q h) (nonneg_abs_ℚ q),
    )
    by_sign (inr h) = (
      ≤ℚ_trans q zero_ℚ (abs_ℚ q) h (nonneg_abs_ℚ q),
      ≤ℚ_from_≡ (neg_ℚ q) (abs_ℚ q)
          (sym (abs_ℚ_nonpos q h)),
    )

-- the magnitude is the greater of a number and its negation
pub abs_ℚ_at_most : (q r : Rational) → q ≤ℚ r → neg_ℚ q ≤ℚ r → abs_ℚ q ≤ℚ r
abs_ℚ_at_most q r h k = by_sign (≤ℚ_total zero_ℚ q)
  where
    by_sign : (zero_ℚ ≤ℚ q) ⊎ (q ≤ℚ zero_ℚ) → abs_ℚ q ≤ℚ r
    by_sign (inl l) = subst (λ x. x ≤ℚ r) (sym (abs_ℚ_nonneg q l)) h
    by_sign (inr l) = subst (λ x. x ≤ℚ r) (sym (abs_ℚ_nonpos q l)) k

pub abs_ℚ-+ℚ : (p q : Rational) → abs_ℚ (p +ℚ q) ≤ℚ (abs_ℚ p +ℚ abs_ℚ q)
abs_ℚ-+ℚ p q =
    abs_ℚ_at_most (p +ℚ q) (abs_ℚ p +ℚ abs_ℚ q)
    (≤ℚ-+ℚ p (abs_ℚ p) q (abs_ℚ q) (≤ℚ_abs_ℚ p).0 (≤ℚ_abs_ℚ q).0)
    (subst (λ x. x ≤ℚ (abs_ℚ p +ℚ abs_ℚ q)) (sym (neg_ℚ-sum p q))
    (≤ℚ-+ℚ (neg_ℚ p) (abs_ℚ p) (neg_ℚ q) (abs_ℚ q) (≤ℚ_abs_ℚ p).1 (≤ℚ_abs_ℚ q).1))

pub abs_ℚ-neg_ℚ : (q : Rational) → abs_ℚ (neg_ℚ q) ≡ abs_ℚ q
abs_ℚ-neg_ℚ q =
    ≤ℚ_antisymm (abs_ℚ (neg_ℚ q)) (abs_ℚ q)
    (abs_ℚ_at_most (neg_ℚ q) (abs_ℚ q) (≤ℚ_abs_ℚ q).1
    (subst (λ x. x ≤ℚ abs_ℚ q) (sym (neg_ℚ-neg_ℚ q)) (≤ℚ_abs_ℚ q).0))
    (abs_ℚ_at_most q (abs_ℚ (neg_ℚ q)) (subst (λ x. x ≤ℚ abs_ℚ (neg_ℚ q)) (neg_ℚ-neg_ℚ q)
    (≤ℚ_abs_ℚ (neg_ℚ q)).1) (≤ℚ_abs_ℚ (neg_ℚ q)).0)

pub abs_ℚ-*ℚ : (p q : Rational) → abs_ℚ (p *ℚ q) ≡ abs_ℚ p *ℚ abs_ℚ q
abs_ℚ-*ℚ p q = by_signs (≤ℚ_total zero_ℚ p) (≤ℚ_total zero_ℚ q)
  where
    by_signs : (zero_ℚ ≤ℚ p) ⊎ (p ≤ℚ zero_ℚ) → (zero_ℚ ≤ℚ q) ⊎ (q ≤ℚ zero_ℚ)
        → abs_ℚ (p *ℚ q) ≡ abs_ℚ p *ℚ abs_ℚ q
    by_signs (inl h) (inl k) = abs_ℚ_nonneg (p *ℚ q) (nonneg_mul p q h k)
        ∙ sym (ap₂ ◌*ℚ◌ (abs_ℚ_nonneg p h) (abs_ℚ_nonneg q k))
    by_signs (inl h) (inr k) =
        abs_ℚ_nonpos (p *ℚ q) (nonpos_mul p q h k)
        ∙ sym (ap₂ ◌*ℚ◌ (abs_ℚ_nonneg p h) (abs_ℚ_nonpos q k) ∙ *ℚ-neg_ℚ p q)
    by_signs (inr h) (inl k) =
        abs_ℚ_nonpos (p *ℚ q) (subst (λ x. x ≤ℚ zero_ℚ) (*ℚ_comm q p) (nonpos_mul q p k h))
        ∙ sym (ap₂ ◌*ℚ◌ (abs_ℚ_nonpos p h) (abs_ℚ_nonneg q k) ∙ neg_ℚ-*ℚ p q)
    by_signs (inr h) (inr k) =
        abs_ℚ_nonneg (p *ℚ q) (nonneg_mul_nonpos p q h k)
        ∙ sym (ap₂ ◌*ℚ◌ (abs_ℚ_nonpos p h) (abs_ℚ_nonpos q k) ∙ *ℚ-neg_ℚ (neg_ℚ p) q
        ∙ ap neg_ℚ (neg_ℚ-*ℚ p q) ∙ neg_ℚ-neg_ℚ (p *ℚ q))
