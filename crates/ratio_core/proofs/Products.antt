-- A product in lowest terms, by taking common divisors out of the factors crosswise.
use Rattle.std.proofs.Common.{◌≡◌, ℕ, zero, suc, ◌*◌, ◌/◌, ◌^◌, ◌<◌, Bool, true, not, ℤ, pos, negsuc, neg_ℤ, ◌*ℤ◌, unsigned_abs, refl, sym, ◌∙◌, ap, ap₂, subst, arith, mul-pos}
use Rattle.std.proofs.Math.Nat.{div-mul_cancel}
use Rattle.std.specs.Int.{◌∣◌, is_negative}
use mathlib.Core.Bool.{beq}
use Rattle.ratio_core.specs.Gcd.{gcd, gcd_is, gcd_swap, coprime_parts, part_pos}
use Rattle.ratio_core.specs.Rational.{Fits, IsReduced, IsStored, Rational, abs_ℚ, fraction, inverse_ℚ, reduce, signed, zero_ℚ, ◌*ℚ◌}
use Rattle.ratio_core.specs.RationalLaws.{reduce_is, signed_times, unsigned_abs-signed}
use Rattle.ratio_core.proofs.Coprime.{coprime_product, coprime_product_right, coprime_within, quotient_divides}
use Rattle.ratio_core.proofs.Kept.{IsMade, is_zero_lem, not_below_zero, parts_made}

-- ---- signs

-- a number is its sign and its size
pub signed_itself : (z : ℤ) → signed (is_negative z) (unsigned_abs z) ≡ z
signed_itself (pos a) = ap (λ s. signed s a) (not_below_zero a)
signed_itself (negsuc a) = refl

pub signed_product : (m n : ℤ) → m *ℤ n ≡ signed (not (beq (is_negative m) (is_negative n)))
    (unsigned_abs m * unsigned_abs n)
signed_product (pos a) (pos b) =
    sym (ap₂ (λ s t. signed (not (beq s t)) (a * b)) (not_below_zero a) (not_below_zero b))
signed_product (pos a) (negsuc b) =
    sym (ap (λ s. signed (not (beq s true)) (a * suc b)) (not_below_zero a))
signed_product (negsuc a) (pos b) =
    sym (ap (λ t. signed (not (beq true t)) (suc a * b)) (not_below_zero b))
signed_product (negsuc a) (negsuc b) = refl

-- ---- the product

shuffle_lem : (n m g h d e : ℕ) → (n * m) * ((d * h) * (e * g)) ≡ ((n * g) * (m * h)) * (d * e)
shuffle_lem n m g h d e = omega arith

module _ (p q : Rational) where
  a : ℕ
  a = unsigned_abs p.num

  c : ℕ
  c = unsigned_abs q.num

  abbrev left : ℕ
  left = gcd (unsigned_abs p.num) q.den

  abbrev right : ℕ
  right = gcd (unsigned_abs q.num) p.den

  abbrev pub product_size : ℕ
  product_size = (unsigned_abs p.num / left) * (unsigned_abs q.num / right)

  abbrev pub product_den : ℕ
  product_den = (p.den / right) * (q.den / left)

  abbrev pub product_sign : Bool
  product_sign = not (beq (is_negative p.num) (is_negative q.num))

  coprime_lem : gcd product_size product_den ≡ 1
  coprime_lem =
      let n : ℕ = unsigned_abs p.num / left in
      let m : ℕ = unsigned_abs q.num / right in
      let d : ℕ = p.den / right in
      let e : ℕ = q.den / left in
      let n_within : n ∣ unsigned_abs p.num =
      quotient_divides (unsigned_abs p.num) left (gcd_is (unsigned_abs p.num) q.den).0 in
      let e_within : e ∣ q.den =
      quotient_divides q.den left (gcd_is (unsigned_abs p.num) q.den).1 in
      let m_within : m ∣ unsigned_abs q.num =
      quotient_divides (unsigned_abs q.num) right (gcd_is (unsigned_abs q.num) p.den).0 in
      let d_within : d ∣ p.den =
      quotient_divides p.den right (gcd_is (unsigned_abs q.num) p.den).1 in
      coprime_product n m (d * e)
      (coprime_product_right n d e (coprime_within (unsigned_abs p.num) p.den n d p.reduced.1
      n_within d_within) (coprime_parts (unsigned_abs p.num) q.den q.reduced.0))
      (coprime_product_right m d e (coprime_parts (unsigned_abs q.num) p.den p.reduced.0)
      (coprime_within (unsigned_abs q.num) q.den m e q.reduced.1 m_within e_within))

  pub product_reduced : IsReduced (signed product_sign product_size) product_den
  product_reduced = (
    mul-pos (part_pos (unsigned_abs q.num) p.den p.reduced.0)
        (part_pos (unsigned_abs p.num) q.den q.reduced.0),
    ap (λ x. gcd x product_den) (unsigned_abs-signed product_sign product_size) ∙ coprime_lem,
  )

  abbrev result : Rational
  result =
      record {
        num = signed product_sign product_size;
        den = product_den;
        reduced = product_reduced;
      }

  pub product_is : p *ℚ q ≡ result
  unfolding ◌*ℚ◌
  product_is =
      let n_times : (unsigned_abs p.num / left) * left ≡ unsigned_abs p.num =
      div-mul_cancel left (gcd_is (unsigned_abs p.num) q.den).0 in
      let e_times : (q.den / left) * left ≡ q.den =
      div-mul_cancel left (gcd_is (unsigned_abs p.num) q.den).1 in
      let m_times : (unsigned_abs q.num / right) * right ≡ unsigned_abs q.num =
      div-mul_cancel right (gcd_is (unsigned_abs q.num) p.den).0 in
      let d_times : (p.den / right) * right ≡ p.den =
      div-mul_cancel right (gcd_is (unsigned_abs q.num) p.den).1 in
      let sizes : product_size * (p.den * q.den)
      ≡ (unsigned_abs p.num * unsigned_abs q.num) * product_den =
      ap₂ (λ x y. product_size * (x * y)) (sym d_times) (sym e_times)
      ∙ shuffle_lem (unsigned_abs p.num / left) (unsigned_abs q.num / right) left right
      (p.den / right) (q.den / left)
      ∙ ap₂ (λ x y. (x * y) * product_den) n_times m_times in
      reduce_is result (p.num *ℤ q.num) (p.den * q.den) (mul-pos p.reduced.0 q.reduced.0)
      (signed_times product_sign product_size (p.den * q.den)
      ∙ ap (signed product_sign) sizes
      ∙ sym (signed_times product_sign (unsigned_abs p.num * unsigned_abs q.num) product_den)
      ∙ ap (λ z. z *ℤ pos product_den) (sym (signed_product p.num q.num)))

  pub product_size_is : unsigned_abs (p *ℚ q).num ≡ product_size
  product_size_is =
      ap (λ r. unsigned_abs r.num) product_is ∙ unsigned_abs-signed product_sign product_size

  pub product_den_is : (p *ℚ q).den ≡ product_den
  product_den_is = ap (λ r. r.den) product_is

-- ---- the product as the code makes it

abbrev pub IsProduct : Rational → Rational → ℤ → ℕ → Type 0
IsProduct p q n d = IsMade n d (p *ℚ q) (Fits (p *ℚ q))

module _ (p q : Rational) {ps pd qs qd l r nl nr : ℕ} (ps_is : ps ≡ unsigned_abs p.num)
    (pd_is : pd ≡ p.den) (qs_is : qs ≡ unsigned_abs q.num) (qd_is : qd ≡ q.den)
    (l_is : l ≡ gcd ps qd) (r_is : r ≡ gcd qs pd) (nl_is : nl ≡ ps / l) (nr_is : nr ≡ qs / r) where
  made_left : l ≡ gcd (unsigned_abs p.num) q.den
  made_left = l_is ∙ ap₂ gcd ps_is qd_is

  made_right : r ≡ gcd (unsigned_abs q.num) p.den
  made_right = r_is ∙ ap₂ gcd qs_is pd_is

  made_size : nl * nr ≡ product_size p q
  made_size = ap₂ ◌*◌ (nl_is ∙ ap₂ ◌/◌ ps_is made_left) (nr_is ∙ ap₂ ◌/◌ qs_is made_right)

  pub size_refused : ¬ (nl * nr < 2 ^ 127) → ¬ Fits (p *ℚ q)
  size_refused h f = h (subst (λ x. x < 2 ^ 127) (product_size_is p q ∙ sym made_size) f.num)

  module _ {dl dr : ℕ} (dl_is : dl ≡ pd / r) (dr_is : dr ≡ qd / l) where
    made_den : dl * dr ≡ product_den p q
    made_den = ap₂ ◌*◌ (dl_is ∙ ap₂ ◌/◌ pd_is made_right) (dr_is ∙ ap₂ ◌/◌ qd_is made_left)

    pub den_refused : ¬ (dl * dr < 2 ^ 127) → ¬ Fits (p *ℚ q)
    den_refused h f = h (subst (λ x. x < 2 ^ 127) (product_den_is p q ∙ sym made_den) f.den)

    pub product_made : {pn qn : Bool} {size den : ℕ} → pn ≡ is_negative p.num
        → qn ≡ is_negative q.num → size ≡ nl * nr → den ≡ dl * dr → size < 2 ^ 127 → den < 2 ^ 127
        → IsProduct p q (signed (not (beq pn qn)) size) den
    product_made {pn} {qn} {size} {den} pn_is qn_is size_is den_is h k =
        parts_made (p *ℚ q) (signed (not (beq pn qn)) size) den
        (ap (λ r. r.num) (product_is p q)
        ∙ sym (ap₂ signed (ap₂ (λ a b. not (beq a b)) pn_is qn_is) (size_is ∙ made_size)))
        (product_den_is p q ∙ sym (den_is ∙ made_den))
        (subst (λ x. x < 2 ^ 127) (sym (unsigned_abs-signed (not (beq pn qn)) size)) h) k

-- ---- the magnitude and the inverse

module _ (q : Rational) (size den : ℕ) (size_is : size ≡ unsigned_abs q.num)
    (den_is : den ≡ q.den) where
  pub abs_value : reduce (pos size) den ≡ abs_ℚ q
  unfolding abs_ℚ
  abs_value = ap₂ (λ n d. reduce (pos n) d) size_is den_is

  pub abs_stored : size < 2 ^ 127 → den < 2 ^ 127 → IsStored (pos size) den
  abs_stored h k = record {
    reduced = (subst (λ d. 0 < d) (sym den_is) q.reduced.0, ap₂ gcd size_is den_is ∙ q.reduced.1);
    num = h;
    den = k;
  }

  module _ (s : Bool) (s_is : s ≡ is_negative q.num) where
    pub inverse_value : reduce (signed s den) size ≡ inverse_ℚ q
    unfolding inverse_ℚ fraction
    inverse_value = by_sign q.num size den s size_is den_is s_is
      where
        by_sign : (z : ℤ) (m d : ℕ) (s : Bool) → m ≡ unsigned_abs z → d ≡ q.den → s ≡ is_negative z
            → reduce (signed s d) m ≡ fraction (pos q.den) z
        by_sign (pos n) m d s e f g =
            ap₂ (λ t k. reduce (signed t k) m) (g ∙ not_below_zero n) f ∙ ap (reduce (pos q.den)) e
        by_sign (negsuc n) m d s e f g =
            ap₂ (λ t k. reduce (signed t k) m) g f ∙ ap (reduce (neg_ℤ (pos q.den))) e

    pub inverse_stored : size < 2 ^ 127 → den < 2 ^ 127 → ¬ (q ≡ zero_ℚ)
        → IsStored (signed s den) size
    inverse_stored h k n = record {
      reduced = (
        above_lem size refl,
        ap (λ x. gcd x size) (unsigned_abs-signed s den)
            ∙ ap₂ gcd den_is size_is ∙ gcd_swap q.den (unsigned_abs q.num) ∙ q.reduced.1,
      );
      num = subst (λ x. x < 2 ^ 127) (sym (unsigned_abs-signed s den)) k;
      den = h;
    }
      where
        above_lem : (m : ℕ) → m ≡ size → 0 < m
        above_lem zero e = absurd (n (is_zero_lem q (sym size_is ∙ sym e)))
        above_lem (suc m) e = omega arith
