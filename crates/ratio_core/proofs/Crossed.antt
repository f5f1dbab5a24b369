-- The order of two quotients by positive numbers, as one of four-fold products.
use Rattle.std.proofs.Common.{◌≡◌, ℕ, ◌+◌, ◌*◌, ◌<◌, true, false, ℤ, pos, negsuc, ◌*ℤ◌, ◌<ℤ◌, unsigned_abs, refl, sym, ◌∙◌, ap, ap₂, arith, zero-mul, Ordering, Less, Greater, mul-pos, mul_assoc, mul_comm, mul_left_comm}
use Rattle.std.proofs.lemmas.Int.{ints}
use Rattle.std.specs.Cmp.{int_cmp_is, int_ranks}
use Rattle.std.specs.Int.{is_negative}
use Rattle.std.specs.Ordering.{nat_cmp, int_cmp}
use borrow.Author.Differences.{up}
use Rattle.ratio_core.specs.Gcd.{gcd_swap}
use Rattle.ratio_core.specs.Rational.{Rational, fraction, inverse_ℚ, rational_cmp, reduce, whole_ℚ, zero_ℚ, ◌*ℚ◌, ◌/ℚ◌, ◌‹ℚ◌}
use Rattle.ratio_core.specs.RationalLaws.{rank_as, reduce_cross, reduce_reduced, times_<, times_times}
use Rattle.ratio_core.proofs.Compared.{above_lem, apart_lem, below_lem}

-- ---- a common factor does not change an order

int_cmp_scaled : (x y : ℤ) (k : ℕ) → 0 < k → int_cmp (x *ℤ pos k) (y *ℤ pos k) ≡ int_cmp x y
int_cmp_scaled x y k h =
    sym (int_cmp_is (x *ℤ pos k) (y *ℤ pos k) (int_cmp x y) (rank_as _ (int_ranks x y)
    (times_< x y k h) (ap (λ n. n *ℤ pos k)) (times_< y x k h)))

-- numbers over one denominator are ordered as their numerators
pub cmp_of_numerators : (p q : Rational) → p.den ≡ q.den → int_cmp p.num q.num ≡ rational_cmp p q
unfolding rational_cmp
cmp_of_numerators p q e =
    sym (int_cmp_scaled p.num q.num p.den p.reduced.0)
    ∙ ap (λ d. int_cmp (p.num *ℤ pos d) (q.num *ℤ pos p.den)) e

-- ---- the order of numbers over denominators that need not be the lowest

-- s over c is n over d: then s times t*d*e, for any t and e, is n times e*c*t
crossed_lem : (s n : ℤ) (c d t e : ℕ) → s *ℤ pos d ≡ n *ℤ pos c
    → (s *ℤ pos t) *ℤ pos (d * e) ≡ (n *ℤ pos e) *ℤ pos (c * t)
crossed_lem s n c d t e h =
    times_times s t (d * e) ∙ ap (λ k. s *ℤ pos k) (mul_left_comm t d e)
    ∙ sym (times_times s d (t * e))
    ∙ ap (λ z. z *ℤ pos (t * e)) h
    ∙ times_times n c (t * e) ∙ ap (λ k. n *ℤ pos k) (last_lem c t e)
    ∙ sym (times_times n e (c * t))
  where
    last_lem : (c t e : ℕ) → c * (t * e) ≡ e * (c * t)
    last_lem c t e = omega arith

reduced_cmp : (n m : ℤ) (d e : ℕ) → 0 < d → 0 < e → rational_cmp (reduce n d) (reduce m e)
    ≡ int_cmp (n *ℤ pos e) (m *ℤ pos d)
unfolding rational_cmp
reduced_cmp n m d e h k =
    let s : Rational = reduce n d in
    let t : Rational = reduce m e in
    sym (int_cmp_scaled (s.num *ℤ pos t.den) (t.num *ℤ pos s.den) (d * e) (mul-pos h k))
    ∙ ap₂ int_cmp
    (crossed_lem s.num n s.den d t.den e (reduce_cross n d h))
    (ap (λ x. (t.num *ℤ pos s.den) *ℤ pos x) (mul_comm d e) ∙ crossed_lem t.num m t.den e s.den d
    (reduce_cross m e k) ∙ ap (λ x. (m *ℤ pos d) *ℤ pos x) (mul_comm t.den s.den))
    ∙ int_cmp_scaled (n *ℤ pos e) (m *ℤ pos d) (s.den * t.den) (mul-pos s.reduced.0 t.reduced.0)

-- ---- quotients

above_zero : (z : ℤ) (d : ℕ) → (pos 0 *ℤ pos d) <ℤ (z *ℤ pos 1)
    → (0 < unsigned_abs z) × (z ≡ pos (unsigned_abs z))
above_zero (pos n) d h = (omega (arith, ints, zero-mul d, h), refl)
above_zero (negsuc n) d h = absurd (omega (arith, ints, zero-mul d, h))

pub positive_parts : (a : Rational) → zero_ℚ ‹ℚ a → (0 < unsigned_abs a.num)
    × (a.num ≡ pos (unsigned_abs a.num))
unfolding zero_ℚ whole_ℚ
positive_parts a h = above_zero a.num a.den h.cross

quotient_is : (p a : Rational) → zero_ℚ ‹ℚ a → p /ℚ a ≡ reduce (p.num *ℤ pos a.den)
    (p.den * unsigned_abs a.num)
unfolding ◌*ℚ◌ inverse_ℚ fraction
quotient_is p a h =
    let positive : (0 < unsigned_abs a.num) × (a.num ≡ pos (unsigned_abs a.num)) =
    positive_parts a h in
    let whole : inverse_ℚ a ≡ reduce (pos a.den) (unsigned_abs a.num) =
    ap (fraction (pos a.den)) positive.1 in
    let parts = reduce_reduced (pos a.den) (unsigned_abs a.num) (
      positive.0,
      gcd_swap a.den (unsigned_abs a.num) ∙ a.reduced.1,
    ) in
    ap₂ (λ n d. reduce (p.num *ℤ n) (p.den * d))
    (ap (λ r. r.num) whole ∙ ap (λ e. e.0) parts)
    (ap (λ r. r.den) whole ∙ ap (λ e. e.1) parts)

quotients_cmp : (p a q b : Rational) → zero_ℚ ‹ℚ a → zero_ℚ ‹ℚ b → rational_cmp (p /ℚ a) (q /ℚ b)
    ≡ int_cmp (p.num *ℤ pos (a.den * (q.den * unsigned_abs b.num)))
    (q.num *ℤ pos (b.den * (p.den * unsigned_abs a.num)))
quotients_cmp p a q b h k =
    ap₂ rational_cmp (quotient_is p a h) (quotient_is q b k)
    ∙ reduced_cmp (p.num *ℤ pos a.den) (q.num *ℤ pos b.den) (p.den * unsigned_abs a.num)
    (q.den * unsigned_abs b.num) (mul-pos p.reduced.0 (positive_parts a h).0)
    (mul-pos q.reduced.0 (positive_parts b k).0)
    ∙ ap₂ int_cmp (times_times p.num a.den (q.den * unsigned_abs b.num))
    (times_times q.num b.den (p.den * unsigned_abs a.num))

pos_lem : (a b c : ℕ) → 0 < a → 0 < b → 0 < c → 0 < a * (b * c)
pos_lem a b c h k l = mul-pos h (mul-pos k l)

module _ (p a q b : Rational) (by : zero_ℚ ‹ℚ a) (over : zero_ℚ ‹ℚ b) where
  abbrev left : ℕ
  left = (unsigned_abs p.num * a.den) * (q.den * unsigned_abs b.num)

  abbrev right : ℕ
  right = (unsigned_abs q.num * b.den) * (p.den * unsigned_abs a.num)

  abbrev left_scale : ℕ
  left_scale = a.den * (q.den * unsigned_abs b.num)

  abbrev right_scale : ℕ
  right_scale = b.den * (p.den * unsigned_abs a.num)

  left_is : left ≡ unsigned_abs p.num * left_scale
  left_is = mul_assoc (unsigned_abs p.num) a.den (q.den * unsigned_abs b.num)

  right_is : right ≡ unsigned_abs q.num * right_scale
  right_is = mul_assoc (unsigned_abs q.num) b.den (p.den * unsigned_abs a.num)

  pub quotients_above : (r : Ordering) → false ≡ is_negative p.num → false ≡ is_negative q.num
      → r ≡ nat_cmp left right → r ≡ rational_cmp (p /ℚ a) (q /ℚ b)
  quotients_above r e f h =
      above_lem p.num q.num right_scale left_scale r e f (h ∙ ap₂ nat_cmp left_is right_is)
      ∙ sym (quotients_cmp p a q b by over)

  pub quotients_below : (r : Ordering) → true ≡ is_negative p.num → true ≡ is_negative q.num
      → r ≡ nat_cmp right left → r ≡ rational_cmp (p /ℚ a) (q /ℚ b)
  quotients_below r e f h =
      below_lem p.num q.num right_scale left_scale r e f (h ∙ ap₂ nat_cmp right_is left_is)
      ∙ sym (quotients_cmp p a q b by over)

  left_scale_pos : 0 < left_scale
  left_scale_pos =
      pos_lem a.den q.den (unsigned_abs b.num) a.reduced.0 q.reduced.0 (positive_parts b over).0

  right_scale_pos : 0 < right_scale
  right_scale_pos =
      pos_lem b.den p.den (unsigned_abs a.num) b.reduced.0 p.reduced.0 (positive_parts a by).0

  pub quotients_less : true ≡ is_negative p.num → false ≡ is_negative q.num
      → Less ≡ rational_cmp (p /ℚ a) (q /ℚ b)
  quotients_less e f =
      int_cmp_is _ _ Less (apart_lem p.num q.num right_scale left_scale left_scale_pos e f)
      ∙ sym (quotients_cmp p a q b by over)

  pub quotients_greater : false ≡ is_negative p.num → true ≡ is_negative q.num
      → Greater ≡ rational_cmp (p /ℚ a) (q /ℚ b)
  quotients_greater e f =
      int_cmp_is _ _ Greater (apart_lem q.num p.num left_scale right_scale right_scale_pos f e)
      ∙ sym (quotients_cmp p a q b by over)

-- ---- products by their halves

-- the product of two numbers of two digits, as the code makes it from the lowest digit on
pub product_by_halves : (a b c d first up part over second more third fourth base : ℕ)
    → first + up * base ≡ a * c + 0 → part + over * base ≡ a * d + up
    → second + more * base ≡ b * c + part → third + fourth * base ≡ b * d + over + more
    → (first + second * base) + (third + fourth * base) * (base * base)
    ≡ (a + b * base) * (c + d * base)
product_by_halves a b c d first up part over second more third fourth base e f g h =
    omega (arith, e, ap (λ x. x * base) f, ap (λ x. x * base) g, ap (λ x. x * (base * base)) h)
