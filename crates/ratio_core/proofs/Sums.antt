-- A sum in lowest terms, by the greatest common divisor of the denominators.
use Rattle.std.proofs.Common.{◌≡◌, ℕ, ◌*◌, ◌/◌, ◌^◌, ◌<◌, Bool, ℤ, pos, ◌+ℤ◌, ◌*ℤ◌, unsigned_abs, sym, ◌∙◌, ap, ap₂, subst, arith, mul-pos, mul-div_cancel, mul_assoc, div-le_self, ◌≤◌}
use Rattle.std.proofs.Math.Nat.{div-mul_cancel, dvd-mul_left, dvd_refl, dvd_trans}
use Rattle.std.proofs.lemmas.Int.{unsigned_abs-mul}
use Rattle.std.specs.Int.{◌∣◌, is_negative}
use Rattle.std.proofs.Math.IntN.{+ℤ_comm}
use Rattle.ratio_core.specs.Gcd.{gcd, gcd_is, gcd_pos, gcd_swap, coprime_parts, dvd_from_coprime, part_pos}
use Rattle.ratio_core.specs.Rational.{IsReduced, Rational, SumFits, common_divisor, left_term, right_term, signed, sum_denominator, sum_of_terms, ◌+ℚ◌}
use Rattle.ratio_core.specs.RationalLaws.{reduce_is, signed_times, times_add, times_times, unsigned_abs-signed}
use Rattle.ratio_core.proofs.Coprime.{coprime_at, coprime_by, coprime_product_right, coprime_within, divides_term, quotient_divides}
use Rattle.ratio_core.proofs.Kept.{IsMade, parts_made}
use Rattle.ratio_core.proofs.Products.{signed_itself}

-- a sum of multiples has no divisor in common with a factor of one, where neither the other factor
-- nor the other multiple has
apart_lem : (x y : ℤ) (a c d b whole : ℕ) → unsigned_abs x ≡ a * d → unsigned_abs y ≡ c * b
    → gcd a whole ≡ 1 → b ∣ whole → gcd d b ≡ 1 → gcd (unsigned_abs (x +ℤ y)) b ≡ 1
apart_lem x y a c d b whole hx hy prime within apart =
    coprime_by (unsigned_abs (x +ℤ y)) b (λ e in_sum in_b.
    let in_y : e ∣ unsigned_abs y = subst (λ w. e ∣ w) (sym hy)
    (dvd_trans e in_b (dvd-mul_left b c)) in
    let in_x : e ∣ a * d = subst (λ w. e ∣ w) hx (divides_term e x y in_sum in_y) in
    let in_a : e ∣ a = dvd_from_coprime d e a (coprime_within d b d e apart (dvd_refl d)
    in_b) in_x in
    coprime_at a whole e prime in_a (dvd_trans e in_b within))

dens_lem : (b d g k h : ℕ) → g ≡ k * h → (b * g) * (d * g) ≡ h * (g * (b * (d * k)))
dens_lem b d g k h e = ap (λ x. (b * g) * (d * x)) e ∙ order_lem b d g k h
  where
    order_lem : (b d g k h : ℕ) → (b * g) * (d * (k * h)) ≡ h * (g * (b * (d * k)))
    order_lem b d g k h = omega arith

module _ (p q : Rational) where
  abbrev common : ℕ
  common = common_divisor p q

  abbrev left_part : ℕ
  left_part = p.den / common_divisor p q

  abbrev right_part : ℕ
  right_part = q.den / common_divisor p q

  abbrev last : ℕ
  last = gcd (unsigned_abs (sum_of_terms p q)) (common_divisor p q)

  common_pos : 0 < common
  unfolding common_divisor
  common_pos = gcd_pos p.den q.den q.reduced.0

  left_times : left_part * common ≡ p.den
  unfolding common_divisor
  left_times = div-mul_cancel _ (gcd_is p.den q.den).0

  right_times : right_part * common ≡ q.den
  unfolding common_divisor
  right_times = div-mul_cancel _ (gcd_is p.den q.den).1

  apart : gcd right_part left_part ≡ 1
  unfolding common_divisor
  apart =
      gcd_swap (q.den / gcd p.den q.den) (p.den / gcd p.den q.den)
      ∙ coprime_parts p.den q.den q.reduced.0

  pub left_size : unsigned_abs (left_term p q) ≡ unsigned_abs p.num * right_part
  unfolding left_term
  left_size = unsigned_abs-mul p.num (pos right_part)

  pub right_size : unsigned_abs (right_term p q) ≡ unsigned_abs q.num * left_part
  unfolding right_term
  right_size = unsigned_abs-mul q.num (pos left_part)

  sum_left : gcd (unsigned_abs (sum_of_terms p q)) left_part ≡ 1
  unfolding sum_of_terms common_divisor
  sum_left =
      apart_lem (left_term p q) (right_term p q) (unsigned_abs p.num) (unsigned_abs q.num)
      right_part left_part p.den left_size right_size p.reduced.1
      (quotient_divides p.den (gcd p.den q.den) (gcd_is p.den q.den).0) apart

  sum_right : gcd (unsigned_abs (sum_of_terms p q)) right_part ≡ 1
  unfolding sum_of_terms common_divisor
  sum_right =
      ap (λ z. gcd (unsigned_abs z) right_part) (+ℤ_comm (left_term p q) (right_term p q))
      ∙ apart_lem (right_term p q) (left_term p q) (unsigned_abs q.num) (unsigned_abs p.num)
      left_part right_part q.den right_size left_size q.reduced.1
      (quotient_divides q.den (gcd p.den q.den) (gcd_is p.den q.den).1)
      (gcd_swap left_part right_part ∙ apart)

  last_within : last ∣ common
  last_within = (gcd_is (unsigned_abs (sum_of_terms p q)) common).1

  -- the second denominator over the last divisor
  right_over_last : q.den / last ≡ right_part * (common / last)
  right_over_last =
      let last_pos : 0 < last = gcd_pos (unsigned_abs (sum_of_terms p q)) common common_pos in
      let whole : (right_part * (common / last)) * last ≡ q.den =
      mul_assoc right_part (common / last) last ∙ ap (λ k. right_part * k)
      (div-mul_cancel last last_within) ∙ right_times in
      ap (λ k. k / last) (sym whole) ∙ mul-div_cancel (right_part * (common / last)) last_pos

  pub sum_den_is : sum_denominator p q ≡ left_part * (right_part * (common / last))
  unfolding sum_denominator
  sum_den_is = ap (λ k. left_part * k) right_over_last

  sum_coprime : gcd (unsigned_abs (sum_of_terms p q) / last) (sum_denominator p q) ≡ 1
  sum_coprime =
      let size : ℕ = unsigned_abs (sum_of_terms p q) in
      let within : (size / last) ∣ size = quotient_divides size last (gcd_is size common).0 in
      ap (gcd (size / last)) sum_den_is
      ∙ coprime_product_right (size / last) left_part (right_part * (common / last))
      (coprime_within size left_part (size / last) left_part sum_left within (dvd_refl left_part))
      (coprime_product_right (size / last) right_part (common / last)
      (coprime_within size right_part (size / last) right_part sum_right within
      (dvd_refl right_part))
      (coprime_parts size common common_pos))

  den_pos : 0 < sum_denominator p q
  unfolding sum_denominator common_divisor
  den_pos =
      mul-pos (part_pos_left p.den q.den p.reduced.0) (subst (λ k. 0 < k) (sym right_over_last)
      (mul-pos (part_pos p.den q.den q.reduced.0) (part_pos (unsigned_abs (sum_of_terms p q))
      common common_pos)))
    where
      part_pos_left : (a b : ℕ) → 0 < a → 0 < a / gcd a b
      part_pos_left a b h = subst (λ g. 0 < a / g) (gcd_swap b a) (part_pos b a h)

  left_whole : left_term p q *ℤ pos common ≡ p.num *ℤ pos q.den
  unfolding left_term
  left_whole = times_times p.num right_part common ∙ ap (λ k. p.num *ℤ pos k) right_times

  right_whole : right_term p q *ℤ pos common ≡ q.num *ℤ pos p.den
  unfolding right_term
  right_whole = times_times q.num left_part common ∙ ap (λ k. q.num *ℤ pos k) left_times

  module _ (s : Bool) (sum_is : signed s (unsigned_abs (sum_of_terms p q)) ≡ sum_of_terms p q) where
    abbrev size : ℕ
    size = unsigned_abs (sum_of_terms p q) / last

    pub sum_reduced : IsReduced (signed s size) (sum_denominator p q)
    sum_reduced =
        (den_pos, ap (λ x. gcd x (sum_denominator p q)) (unsigned_abs-signed s size) ∙ sum_coprime)

    pub sum_value : p +ℚ q ≡ record {
      num = signed s size;
      den = sum_denominator p q;
      reduced = sum_reduced;
    }
    unfolding ◌+ℚ◌ sum_of_terms
    sum_value =
        let s_times : signed s size *ℤ pos last ≡ sum_of_terms p q =
        signed_times s size last ∙ ap (signed s)
        (div-mul_cancel last (gcd_is (unsigned_abs (sum_of_terms p q)) common).0) ∙ sum_is in
        let terms : sum_of_terms p q *ℤ pos common ≡ (p.num *ℤ pos q.den) +ℤ (q.num *ℤ pos p.den) =
        times_add (left_term p q) (right_term p q) common ∙ ap₂ ◌+ℤ◌ left_whole right_whole in
        let inner : ℕ = left_part * (right_part * (common / last)) in
        reduce_is (record { num = signed s size; den = sum_denominator p q; reduced = sum_reduced })
        ((p.num *ℤ pos q.den) +ℤ (q.num *ℤ pos p.den)) (p.den * q.den)
        (mul-pos p.reduced.0 q.reduced.0)
        (ap (λ k. signed s size *ℤ pos k) (ap₂ (λ x y. x * y) (sym left_times) (sym right_times)
        ∙ dens_lem left_part right_part common (common / last) last
        (sym (div-mul_cancel last last_within)))
        ∙ sym (times_times (signed s size) last (common * inner))
        ∙ ap (λ z. z *ℤ pos (common * inner)) s_times
        ∙ sym (times_times (sum_of_terms p q) common inner)
        ∙ ap₂ (λ z k. z *ℤ pos k) terms (sym sum_den_is))

-- ---- the sum as the code makes it

abbrev pub IsSum : Rational → Rational → ℤ → ℕ → Type 0
IsSum p q n d = IsMade n d (p +ℚ q) (SumFits p q)

pub term_is : (z : ℤ) (n : Bool) (k m : ℕ) → n ≡ is_negative z → m ≡ unsigned_abs z * k
    → signed n m ≡ z *ℤ pos k
term_is z n k m e f =
    ap₂ signed e f ∙ sym (signed_times (is_negative z) (unsigned_abs z) k)
    ∙ ap (λ y. y *ℤ pos k) (signed_itself z)

refuse_lem : (n m : ℕ) → n ≡ m → ¬ (n < 2 ^ 127) → ¬ (m < 2 ^ 127)
refuse_lem n m e h k = h (subst (λ x. x < 2 ^ 127) (sym e) k)

module _ (p q : Rational) {pd qd g lo ro ps qs : ℕ} (pd_is : pd ≡ p.den) (qd_is : qd ≡ q.den)
    (g_is : g ≡ gcd pd qd) (lo_is : lo ≡ pd / g) (ro_is : ro ≡ qd / g)
    (ps_is : ps ≡ unsigned_abs p.num) (qs_is : qs ≡ unsigned_abs q.num) where
  made_common : g ≡ common_divisor p q
  unfolding common_divisor
  made_common = g_is ∙ ap₂ gcd pd_is qd_is

  made_left : lo ≡ left_part p q
  made_left = lo_is ∙ ap₂ ◌/◌ pd_is made_common

  made_right : ro ≡ right_part p q
  made_right = ro_is ∙ ap₂ ◌/◌ qd_is made_common

  made_left_size : ps * ro ≡ unsigned_abs (left_term p q)
  made_left_size = ap₂ ◌*◌ ps_is made_right ∙ sym (left_size p q)

  made_right_size : qs * lo ≡ unsigned_abs (right_term p q)
  made_right_size = ap₂ ◌*◌ qs_is made_left ∙ sym (right_size p q)

  pub left_refused : ¬ (ps * ro < 2 ^ 127) → ¬ SumFits p q
  left_refused h f = refuse_lem _ _ made_left_size h f.left

  pub right_refused : ¬ (qs * lo < 2 ^ 127) → ¬ SumFits p q
  right_refused h f = refuse_lem _ _ made_right_size h f.right

  module _ {pn qn : Bool} (s : Bool) {left right : ℕ} (size : ℕ) (pn_is : pn ≡ is_negative p.num)
      (qn_is : qn ≡ is_negative q.num) (left_is : left ≡ ps * ro) (right_is : right ≡ qs * lo)
      (sum : signed s size ≡ signed pn left +ℤ signed qn right) where
    made_sum : signed s size ≡ sum_of_terms p q
    unfolding sum_of_terms left_term right_term
    made_sum =
        sum ∙ ap₂ ◌+ℤ◌
        (term_is p.num pn (right_part p q) left pn_is (left_is ∙ ap₂ ◌*◌ ps_is made_right))
        (term_is q.num qn (left_part p q) right qn_is (right_is ∙ ap₂ ◌*◌ qs_is made_left))

    made_size : size ≡ unsigned_abs (sum_of_terms p q)
    made_size = sym (unsigned_abs-signed s size) ∙ ap unsigned_abs made_sum

    pub sum_refused : 2 ^ 127 ≤ size → ¬ SumFits p q
    sum_refused h f = omega (arith, h, made_size, f.sum)

    module _ {last : ℕ} (last_is : last ≡ gcd size g) where
      made_last : last ≡ gcd (unsigned_abs (sum_of_terms p q)) (common_divisor p q)
      made_last = last_is ∙ ap₂ gcd made_size made_common

      made_den : lo * (qd / last) ≡ sum_denominator p q
      unfolding sum_denominator
      made_den = ap₂ ◌*◌ made_left (ap₂ ◌/◌ qd_is made_last)

      pub den_refused : ¬ (lo * (qd / last) < 2 ^ 127) → ¬ SumFits p q
      den_refused h f = refuse_lem _ _ made_den h f.denominator

      whole_is : signed s (unsigned_abs (sum_of_terms p q)) ≡ sum_of_terms p q
      whole_is = ap (signed s) (sym made_size) ∙ made_sum

      pub sum_made : {den : ℕ} → den ≡ lo * (qd / last) → left < 2 ^ 127 → right < 2 ^ 127
          → size < 2 ^ 127 → den < 2 ^ 127 → IsSum p q (signed s (size / last)) den
      sum_made {den} den_is h k l m =
          let made = parts_made (p +ℚ q) (signed s (size / last)) den
          (ap (λ r. r.num) (sum_value p q s whole_is)
          ∙ sym (ap (signed s) (ap₂ ◌/◌ made_size made_last)))
          (ap (λ r. r.den) (sum_value p q s whole_is) ∙ sym (den_is ∙ made_den))
          (subst (λ x. x < 2 ^ 127) (sym (unsigned_abs-signed s (size / last)))
          (omega (arith, div-le_self size last, l))) m in
          record {
            stored = made.stored;
            value = made.value;
            fits = record {
              left = subst (λ x. x < 2 ^ 127) (left_is ∙ made_left_size) h;
              right = subst (λ x. x < 2 ^ 127) (right_is ∙ made_right_size) k;
              sum = subst (λ x. x < 2 ^ 127) made_size l;
              denominator = subst (λ x. x < 2 ^ 127) (den_is ∙ made_den) m;
            };
          }
