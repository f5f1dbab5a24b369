-- The field of the rational numbers. Each law is an equality of numbers, and but for the inverse it
-- holds unconditionally.
use Rattle.std.specs.Prelude.{◌≡◌, ℕ, zero, suc, ◌*◌, ◌<◌, ℤ, pos, negsuc, ◌+ℤ◌, ◌*ℤ◌, neg_ℤ, refl}
use Rattle.std.proofs.Common.{sym, ◌∙◌, ap, ap₂, arith, mul-pos, mul_comm, mul_assoc}
use Rattle.std.proofs.Math.IntN.{+ℤ_assoc, +ℤ_comm, +ℤ_invr, *ℤ_comm}
use Rattle.std.proofs.lemmas.Int.{ints}
use borrow.Author.Differences.{same_in, product_is, neg_is}
use Rattle.ratio_core.specs.Rational.{Rational, reduce, fraction, whole_ℚ, zero_ℚ, one_ℚ, ◌+ℚ◌, ◌-ℚ◌, ◌*ℚ◌, neg_ℚ, inverse_ℚ}
use Rattle.ratio_core.specs.RationalLaws.{reduce_is, reduce_itself}
use Rattle.rational_laws.specs.Over.{over-+ℚ, over-neg_ℚ, over-zero_ℚ, over₁, over₂, over₃, reduce-*ℚ}
use Rattle.rational_laws.specs.Whole.{*ℤ_assoc, *ℤ-+ℤ, *ℤ_pos_one}

-- ---- sums

pub +ℚ_comm : (p q : Rational) → p +ℚ q ≡ q +ℚ p
+ℚ_comm = over₂ (λ p q. p +ℚ q ≡ q +ℚ p) (λ a b d h. over-+ℚ a b d h
    ∙ ap (λ z. reduce z d) (+ℤ_comm a b) ∙ sym (over-+ℚ b a d h))

pub +ℚ_assoc : (p q r : Rational) → (p +ℚ q) +ℚ r ≡ p +ℚ (q +ℚ r)
+ℚ_assoc =
    over₃ (λ p q r. (p +ℚ q) +ℚ r ≡ p +ℚ (q +ℚ r))
    (λ a b c d h.
    ap (λ x. x +ℚ reduce c d) (over-+ℚ a b d h) ∙ over-+ℚ (a +ℤ b) c d h
    ∙ ap (λ z. reduce z d) (+ℤ_assoc a b c)
    ∙ sym (ap (λ x. reduce a d +ℚ x) (over-+ℚ b c d h) ∙ over-+ℚ a (b +ℤ c) d h))

pub zero-+ℚ : (p : Rational) → zero_ℚ +ℚ p ≡ p
zero-+ℚ =
    over₁ (λ p. zero_ℚ +ℚ p ≡ p)
    (λ a d h. ap (λ x. x +ℚ reduce a d) (over-zero_ℚ d h) ∙ over-+ℚ (pos 0) a d h
    ∙ ap (λ z. reduce z d) (zero_lem a))
  where
    zero_lem : (a : ℤ) → pos 0 +ℤ a ≡ a
    zero_lem a = omega (arith, ints)

pub +ℚ-zero : (p : Rational) → p +ℚ zero_ℚ ≡ p
+ℚ-zero p = +ℚ_comm p zero_ℚ ∙ zero-+ℚ p

pub +ℚ-neg_ℚ : (p : Rational) → p +ℚ neg_ℚ p ≡ zero_ℚ
+ℚ-neg_ℚ =
    over₁ (λ p. p +ℚ neg_ℚ p ≡ zero_ℚ)
    (λ a d h. ap (λ x. reduce a d +ℚ x) (over-neg_ℚ a d h) ∙ over-+ℚ a (neg_ℤ a) d h
    ∙ ap (λ z. reduce z d) (+ℤ_invr a) ∙ sym (over-zero_ℚ d h))

pub neg_ℚ-+ℚ : (p : Rational) → neg_ℚ p +ℚ p ≡ zero_ℚ
neg_ℚ-+ℚ p = +ℚ_comm (neg_ℚ p) p ∙ +ℚ-neg_ℚ p

pub +ℚ_left_comm : (p q r : Rational) → p +ℚ (q +ℚ r) ≡ q +ℚ (p +ℚ r)
+ℚ_left_comm p q r = sym (+ℚ_assoc p q r) ∙ ap (λ x. x +ℚ r) (+ℚ_comm p q) ∙ +ℚ_assoc q p r

-- the two inner ones of four change places
pub +ℚ_inner_comm : (p q r s : Rational) → (p +ℚ q) +ℚ (r +ℚ s) ≡ (p +ℚ r) +ℚ (q +ℚ s)
+ℚ_inner_comm p q r s = +ℚ_assoc p q (r +ℚ s) ∙ ap (λ x. p +ℚ x) (+ℚ_left_comm q r s)
    ∙ sym (+ℚ_assoc p r (q +ℚ s))

-- ---- products

pub *ℚ_comm : (p q : Rational) → p *ℚ q ≡ q *ℚ p
unfolding ◌*ℚ◌
*ℚ_comm p q = ap₂ reduce (*ℤ_comm p.num q.num) (mul_comm p.den q.den)

-- a product with a fraction
times_fraction : (p : Rational) (n : ℤ) (d : ℕ) → 0 < d
    → p *ℚ reduce n d ≡ reduce (p.num *ℤ n) (p.den * d)
times_fraction p n d h = ap (λ x. x *ℚ reduce n d) (sym (reduce_itself p))
    ∙ reduce-*ℚ p.num n p.den d p.reduced.0 h

product_is_fraction : (p q : Rational) → p *ℚ q ≡ reduce (p.num *ℤ q.num) (p.den * q.den)
unfolding ◌*ℚ◌
product_is_fraction p q = refl

pub *ℚ_assoc : (p q r : Rational) → (p *ℚ q) *ℚ r ≡ p *ℚ (q *ℚ r)
*ℚ_assoc p q r =
    *ℚ_comm (p *ℚ q) r ∙ ap (λ x. r *ℚ x) (product_is_fraction p q)
    ∙ times_fraction r (p.num *ℤ q.num) (p.den * q.den) (mul-pos p.reduced.0 q.reduced.0)
    ∙ ap₂ reduce (*ℤ_comm r.num (p.num *ℤ q.num) ∙ *ℤ_assoc p.num q.num r.num)
    (mul_comm r.den (p.den * q.den) ∙ mul_assoc p.den q.den r.den)
    ∙ sym (ap (λ x. p *ℚ x) (product_is_fraction q r)
    ∙ times_fraction p (q.num *ℤ r.num) (q.den * r.den) (mul-pos q.reduced.0 r.reduced.0))

pub *ℚ-one : (p : Rational) → p *ℚ one_ℚ ≡ p
unfolding one_ℚ whole_ℚ ◌*ℚ◌
*ℚ-one p = ap₂ reduce (*ℤ_pos_one p.num) (one_lem p.den) ∙ reduce_itself p
  where
    one_lem : (n : ℕ) → n * 1 ≡ n
    one_lem n = omega arith

pub one-*ℚ : (p : Rational) → one_ℚ *ℚ p ≡ p
one-*ℚ p = *ℚ_comm one_ℚ p ∙ *ℚ-one p

pub *ℚ-+ℚ : (p q r : Rational) → p *ℚ (q +ℚ r) ≡ p *ℚ q +ℚ p *ℚ r
*ℚ-+ℚ p =
    over₂ (λ q r. p *ℚ (q +ℚ r) ≡ p *ℚ q +ℚ p *ℚ r)
    (λ b c d h.
    ap (λ x. p *ℚ x) (over-+ℚ b c d h) ∙ times_fraction p (b +ℤ c) d h
    ∙ ap (λ z. reduce z (p.den * d)) (*ℤ-+ℤ p.num b c)
    ∙ sym (ap₂ ◌+ℚ◌ (times_fraction p b d h) (times_fraction p c d h)
    ∙ over-+ℚ (p.num *ℤ b) (p.num *ℤ c) (p.den * d) (mul-pos p.reduced.0 h)))

pub +ℚ-*ℚ : (p q r : Rational) → (p +ℚ q) *ℚ r ≡ p *ℚ r +ℚ q *ℚ r
+ℚ-*ℚ p q r = *ℚ_comm (p +ℚ q) r ∙ *ℚ-+ℚ r p q ∙ ap₂ ◌+ℚ◌ (*ℚ_comm r p) (*ℚ_comm r q)

pub *ℚ-zero : (p : Rational) → p *ℚ zero_ℚ ≡ zero_ℚ
*ℚ-zero p = sym (+ℚ-zero (p *ℚ zero_ℚ)) ∙ ap (λ x. p *ℚ zero_ℚ +ℚ x) (sym (+ℚ-neg_ℚ (p *ℚ zero_ℚ)))
    ∙ sym (+ℚ_assoc (p *ℚ zero_ℚ) (p *ℚ zero_ℚ) (neg_ℚ (p *ℚ zero_ℚ)))
    ∙ ap (λ x. x +ℚ neg_ℚ (p *ℚ zero_ℚ)) (sym (*ℚ-+ℚ p zero_ℚ zero_ℚ)
    ∙ ap (λ x. p *ℚ x) (zero-+ℚ zero_ℚ)) ∙ +ℚ-neg_ℚ (p *ℚ zero_ℚ)

pub zero-*ℚ : (p : Rational) → zero_ℚ *ℚ p ≡ zero_ℚ
zero-*ℚ p = *ℚ_comm zero_ℚ p ∙ *ℚ-zero p

-- ---- negation

-- the negation is the one number whose sum with p is 0
pub neg_ℚ_unique : (p q : Rational) → p +ℚ q ≡ zero_ℚ → q ≡ neg_ℚ p
neg_ℚ_unique p q e =
    sym (zero-+ℚ q) ∙ ap (λ x. x +ℚ q) (sym (neg_ℚ-+ℚ p)) ∙ +ℚ_assoc (neg_ℚ p) p q
    ∙ ap (λ x. neg_ℚ p +ℚ x) e ∙ +ℚ-zero (neg_ℚ p)

pub neg_ℚ-neg_ℚ : (p : Rational) → neg_ℚ (neg_ℚ p) ≡ p
neg_ℚ-neg_ℚ p = sym (neg_ℚ_unique (neg_ℚ p) p (neg_ℚ-+ℚ p))

pub neg_ℚ-zero : neg_ℚ zero_ℚ ≡ zero_ℚ
neg_ℚ-zero = sym (neg_ℚ_unique zero_ℚ zero_ℚ (zero-+ℚ zero_ℚ))

pub neg_ℚ-sum : (p q : Rational) → neg_ℚ (p +ℚ q) ≡ neg_ℚ p +ℚ neg_ℚ q
neg_ℚ-sum p q =
    sym (neg_ℚ_unique (p +ℚ q) (neg_ℚ p +ℚ neg_ℚ q)
    (+ℚ_inner_comm p q (neg_ℚ p) (neg_ℚ q) ∙ ap₂ ◌+ℚ◌ (+ℚ-neg_ℚ p) (+ℚ-neg_ℚ q) ∙ zero-+ℚ zero_ℚ))

pub neg_ℚ-*ℚ : (p q : Rational) → neg_ℚ p *ℚ q ≡ neg_ℚ (p *ℚ q)
neg_ℚ-*ℚ p q =
    neg_ℚ_unique (p *ℚ q) (neg_ℚ p *ℚ q) (sym (+ℚ-*ℚ p (neg_ℚ p) q) ∙ ap (λ x. x *ℚ q) (+ℚ-neg_ℚ p)
    ∙ zero-*ℚ q)

pub *ℚ-neg_ℚ : (p q : Rational) → p *ℚ neg_ℚ q ≡ neg_ℚ (p *ℚ q)
*ℚ-neg_ℚ p q = *ℚ_comm p (neg_ℚ q) ∙ neg_ℚ-*ℚ q p ∙ ap neg_ℚ (*ℚ_comm q p)

-- ---- differences

pub -ℚ-itself : (p : Rational) → p -ℚ p ≡ zero_ℚ
-ℚ-itself = +ℚ-neg_ℚ

pub -ℚ-+ℚ_cancel : (p q : Rational) → (p -ℚ q) +ℚ q ≡ p
-ℚ-+ℚ_cancel p q = +ℚ_assoc p (neg_ℚ q) q ∙ ap (λ x. p +ℚ x) (neg_ℚ-+ℚ q) ∙ +ℚ-zero p

pub +ℚ--ℚ_cancel : (p q : Rational) → (p +ℚ q) -ℚ q ≡ p
+ℚ--ℚ_cancel p q = +ℚ_assoc p q (neg_ℚ q) ∙ ap (λ x. p +ℚ x) (+ℚ-neg_ℚ q) ∙ +ℚ-zero p

pub +ℚ_cancel : (p q r : Rational) → p +ℚ r ≡ q +ℚ r → p ≡ q
+ℚ_cancel p q r e = sym (+ℚ--ℚ_cancel p r) ∙ ap (λ x. x -ℚ r) e ∙ +ℚ--ℚ_cancel q r

pub same_from_difference : (p q : Rational) → p -ℚ q ≡ zero_ℚ → p ≡ q
same_from_difference p q e = sym (-ℚ-+ℚ_cancel p q) ∙ ap (λ x. x +ℚ q) e ∙ zero-+ℚ q

pub *ℚ--ℚ : (p q r : Rational) → p *ℚ (q -ℚ r) ≡ p *ℚ q -ℚ p *ℚ r
*ℚ--ℚ p q r = *ℚ-+ℚ p q (neg_ℚ r) ∙ ap (λ x. p *ℚ q +ℚ x) (*ℚ-neg_ℚ p r)

-- ---- the inverse

whole_product : (n d : ℕ) → negsuc n *ℤ neg_ℤ (pos d) ≡ pos (suc n * d)
whole_product n d = same_in _ _ (omega (
  arith,
  product_is (negsuc n) (neg_ℤ (pos d)),
  ap
      (λ k. suc n * k) (neg_is (pos d)).1,
  ap (λ k. suc n * k) (neg_is (pos d)).0,
))

one_lem : (n d : ℕ) → 0 < d → reduce (pos (suc n * d)) (d * suc n) ≡ one_ℚ
unfolding one_ℚ whole_ℚ
one_lem n d h = reduce_is (whole_ℚ (pos 1)) (pos (suc n * d)) (d * suc n) (above_lem n d h)
    (ap pos (shape_lem n d))
  where
    above_lem : (n d : ℕ) → 0 < d → 0 < d * suc n
    above_lem n (suc d) h = omega arith
    above_lem n zero h = absurd (omega arith)

    shape_lem : (n d : ℕ) → 1 * (d * suc n) ≡ (suc n * d) * 1
    shape_lem n d = omega arith

inverse_lem : (z : ℤ) (d : ℕ) → 0 < d → ¬ (z ≡ pos 0) → reduce z d *ℚ fraction (pos d) z ≡ one_ℚ
unfolding fraction
inverse_lem (pos zero) d h n = absurd (n refl)
inverse_lem (pos (suc n)) d h k = reduce-*ℚ (pos (suc n)) (pos d) d (suc n) h (omega arith)
    ∙ one_lem n d h
inverse_lem (negsuc n) d h k =
    reduce-*ℚ (negsuc n) (neg_ℤ (pos d)) d (suc n) h (omega arith)
    ∙ ap (λ z. reduce z (d * suc n)) (whole_product n d) ∙ one_lem n d h

zero_from_num : (q : Rational) → q.num ≡ pos 0 → q ≡ zero_ℚ
zero_from_num q e = sym (reduce_itself q) ∙ ap (λ z. reduce z q.den) e
    ∙ sym (over-zero_ℚ q.den q.reduced.0)

pub *ℚ-inverse_ℚ : (q : Rational) → ¬ (q ≡ zero_ℚ) → q *ℚ inverse_ℚ q ≡ one_ℚ
unfolding inverse_ℚ
*ℚ-inverse_ℚ q n = ap (λ x. x *ℚ fraction (pos q.den) q.num) (sym (reduce_itself q))
    ∙ inverse_lem q.num q.den q.reduced.0 (λ e. n (zero_from_num q e))

pub inverse_ℚ-*ℚ : (q : Rational) → ¬ (q ≡ zero_ℚ) → inverse_ℚ q *ℚ q ≡ one_ℚ
inverse_ℚ-*ℚ q n = *ℚ_comm (inverse_ℚ q) q ∙ *ℚ-inverse_ℚ q n

-- ---- numbers that aren't 0

pub one_not_zero : ¬ (one_ℚ ≡ zero_ℚ)
unfolding one_ℚ zero_ℚ whole_ℚ
one_not_zero e = absurd (omega (arith, ints, ap (λ q. q.num) e))

-- ---- for `simp`: small equations of the ring

pub ruleset ring_ℚ = (
  +ℚ_assoc,
  +ℚ_comm,
  +ℚ_left_comm,
  *ℚ_assoc,
  *ℚ_comm,
  *ℚ-+ℚ,
  +ℚ-*ℚ,
  zero-+ℚ,
  +ℚ-zero,
  +ℚ-neg_ℚ,
  neg_ℚ-+ℚ,
  zero-*ℚ,
  *ℚ-zero,
  one-*ℚ,
  *ℚ-one,
  neg_ℚ-neg_ℚ,
  neg_ℚ-zero,
  neg_ℚ-sum,
  neg_ℚ-*ℚ,
  *ℚ-neg_ℚ,
)
