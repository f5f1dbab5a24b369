-- Sums and products of narrow fractions, as the code makes them.
use Rattle.std.proofs.Common.{◌≡◌, ℕ, ◌*◌, ◌/◌, ◌^◌, ◌<◌, ◌≤◌, true, ℤ, pos, ◌+ℤ◌, ◌*ℤ◌, unsigned_abs, refl, sym, ◌∙◌, ap, ap₂, subst, arith, div-le_self, div-one, bit_or, leb}
use Rattle.std.proofs.lemmas.Bool.{leb-true}
use Rattle.std.proofs.lemmas.Nat.{le_or_l, le_or_r, mul-le}
use Rattle.std.specs.Int.{is_negative}
use Rattle.ratio_core.specs.Gcd.{gcd, gcd-one}
use Rattle.ratio_core.specs.Narrow.{IsNarrow}
use Rattle.ratio_core.specs.Rational.{Fits, Rational, signed}
use Rattle.ratio_core.proofs.Kept.{times_one}
use Rattle.ratio_core.proofs.Products.{IsProduct, product_made, signed_itself, signed_product}
use Rattle.ratio_core.proofs.Sums.{IsSum, sum_made, term_is}

pub small_product : (a b : ℕ) → a < 2 ^ 63 → b < 2 ^ 63 → a * b < 2 ^ 127
small_product a b h k =
    let most : a * b ≤ 9223372036854775807 * 9223372036854775807 =
    mul-le a b 9223372036854775807 9223372036854775807 (omega arith) (omega arith) in
    omega (arith, most)

pub quotient_below : (a g m : ℕ) → m ≡ a / g → a < 2 ^ 63 → m < 2 ^ 63
quotient_below a g m e h = omega (arith, e, div-le_self a g, h)

pub fits_along : (y z : ℤ) → y ≡ z → unsigned_abs z < 2 ^ 127 → unsigned_abs y < 2 ^ 127
fits_along y z e h = subst (λ n. unsigned_abs n < 2 ^ 127) (sym e) h

pub short_along : (y z : ℤ) → y ≡ z → unsigned_abs z < 2 ^ 126 → unsigned_abs y < 2 ^ 126
short_along y z e h = subst (λ n. unsigned_abs n < 2 ^ 126) (sym e) h

-- one test of all bits
pub narrow_by_bits : (p q : Rational) (ps qs pd qd : ℕ) → ps ≡ unsigned_abs p.num
    → qs ≡ unsigned_abs q.num → pd ≡ p.den → qd ≡ q.den
    → leb (bit_or (bit_or ps qs) (bit_or pd qd)) 9223372036854775807 ≡ true
    → IsNarrow p × IsNarrow q
narrow_by_bits p q ps qs pd qd ps_is qs_is pd_is qd_is test =
    let all : bit_or (bit_or ps qs) (bit_or pd qd) ≤ 9223372036854775807 = leb-true _ _ test in
    let sizes : bit_or ps qs ≤ bit_or (bit_or ps qs) (bit_or pd qd) = le_or_l _ _ in
    let dens : bit_or pd qd ≤ bit_or (bit_or ps qs) (bit_or pd qd) = le_or_r _ _ in (
      record { num = omega (arith, le_or_l ps qs); den = omega (arith, le_or_l pd qd) },
      record { num = omega (arith, le_or_r ps qs); den = omega (arith, le_or_r pd qd) },
    )

-- ---- sums: a and b are the numerators, and y is the sum z after it went to bits and back

module _ (p q : Rational) {pd qd g lo ro : ℕ} (pd_is : pd ≡ p.den) (qd_is : qd ≡ q.den)
    (g_is : g ≡ gcd pd qd) (lo_is : lo ≡ pd / g) (ro_is : ro ≡ qd / g) {a b z y : ℤ}
    (a_is : a ≡ p.num) (b_is : b ≡ q.num) (z_is : z ≡ (a *ℤ pos ro) +ℤ (b *ℤ pos lo)) (y_is : y ≡ z)
    {size last k : ℕ} (size_is : size ≡ unsigned_abs y) (last_is : last ≡ gcd size g)
    (k_is : k ≡ qd / last) where
  sum_lem : signed (is_negative y) size ≡ signed (is_negative p.num)
      (unsigned_abs p.num * ro) +ℤ signed (is_negative q.num) (unsigned_abs q.num * lo)
  sum_lem =
      ap (signed (is_negative y)) size_is ∙ signed_itself y ∙ y_is ∙ z_is
      ∙ (λ i. (a_is i *ℤ pos ro) +ℤ (b_is i *ℤ pos lo))
      ∙ sym (ap₂ ◌+ℤ◌ (term_is p.num _ ro _ refl refl) (term_is q.num _ lo _ refl refl))

  module _ {w v : ℤ} (w_is : w ≡ signed (is_negative y) (unsigned_abs y / last))
      (v_is : v ≡ w) where
    num_lem : v ≡ signed (is_negative y) (size / last)
    num_lem = v_is ∙ w_is ∙ ap (λ n. signed (is_negative y) (n / last)) (sym size_is)

    sum_of_all : unsigned_abs p.num * ro < 2 ^ 127 → unsigned_abs q.num * lo < 2 ^ 127
        → unsigned_abs z < 2 ^ 127 → lo * k < 2 ^ 127 → IsSum p q v (lo * k)
    sum_of_all left_fits right_fits fits den_fits =
        subst (λ n. IsSum p q n (lo * k)) (sym num_lem)
        (sum_made p q pd_is qd_is g_is lo_is ro_is refl refl (is_negative y) size refl refl refl
        refl sum_lem last_is (ap (λ n. lo * n) k_is) left_fits right_fits
        (subst (λ n. n < 2 ^ 127) (sym size_is) (fits_along y z y_is fits)) den_fits)

    pub narrow_sum : IsNarrow p → IsNarrow q → unsigned_abs z < 2 ^ 127 → IsSum p q v (lo * k)
    narrow_sum narrow_p narrow_q fits =
        let lo_below : lo < 2 ^ 63 = quotient_below pd g lo lo_is (omega arith) in
        let ro_below : ro < 2 ^ 63 = quotient_below qd g ro ro_is (omega arith) in
        sum_of_all (small_product _ ro narrow_p.num ro_below)
        (small_product _ lo narrow_q.num lo_below) fits (small_product lo k lo_below
        (quotient_below qd last k k_is (omega arith)))

-- ---- whole numbers: v is the sum or product z after it went to bits and back

module _ (p q : Rational) (whole_p : p.den ≡ 1) (whole_q : q.den ≡ 1) {a b z v : ℤ}
    (a_is : a ≡ p.num) (b_is : b ≡ q.num) (v_is : v ≡ z) where
  pub whole_sum : z ≡ a +ℤ b → Fits p → Fits q → unsigned_abs z < 2 ^ 127 → IsSum p q v 1
  whole_sum z_is fits_p fits_q fits =
      sum_of_all p q (sym whole_p) (sym whole_q) (sym (gcd-one 1)) refl refl
      a_is b_is (z_is ∙ sym (ap₂ ◌+ℤ◌ (times_one a) (times_one b))) refl
      refl (sym (gcd-one (unsigned_abs z))) refl
      (sym (ap (signed (is_negative z)) (div-one (unsigned_abs z)) ∙ signed_itself z)) v_is
      (omega (arith, fits_p.num)) (omega (arith, fits_q.num)) fits (omega arith)

  whole_gcd : (n d : ℕ) → d ≡ 1 → 1 ≡ gcd n d
  whole_gcd n d e = sym (ap (gcd n) e ∙ gcd-one n)

  over_one : (n : ℕ) → n ≡ n / 1
  over_one n = sym (div-one n)

  whole_over : (d : ℕ) → d ≡ 1 → 1 ≡ d / 1
  whole_over d e = sym (div-one d ∙ e)

  pub whole_product : z ≡ a *ℤ b → IsNarrow p → IsNarrow q → IsProduct p q v 1
  whole_product z_is narrow_p narrow_q =
      subst (λ n. IsProduct p q n 1)
      (sym (v_is ∙ z_is ∙ ap₂ ◌*ℤ◌ a_is b_is ∙ signed_product p.num q.num))
      (product_made p q refl refl refl refl
      (whole_gcd _ q.den whole_q) (whole_gcd _ p.den whole_p) (over_one _) (over_one _)
      (whole_over p.den whole_p) (whole_over q.den whole_q) refl refl refl refl
      (small_product _ _ narrow_p.num narrow_q.num) (omega arith))
