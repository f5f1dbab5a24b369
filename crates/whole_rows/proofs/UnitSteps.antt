-- A step over 1, by which a row is lowered without a multiplication of its numbers, and rows of
-- small numbers.
use Rattle.std.specs.Prelude.{◌≡◌, ℕ, suc, ◌+◌, ◌*◌, ◌/◌, ◌^◌, ◌<◌, ◌≤◌, ◌&&◌, nat_lt, true, ℤ, pos, negsuc, neg_ℤ, int_div, unsigned_abs}
use Rattle.std.proofs.Common.{sym, ◌∙◌, ap, ap₂, arith, mul-le-mul_right, subst}
use Rattle.std.proofs.Math.Nat.{div-one}
use Rattle.std.proofs.lemmas.Bool.{and_parts, lt-ltb, ltb-true}
use Rattle.ratio_core.specs.Gcd.{gcd, gcd-one}
use Rattle.whole_rows.specs.declared.narrow_row.NarrowRow.{NarrowRow}
use Rattle.whole_rows.specs.declared.plan.ShortPlan.{ShortPlan}
use Rattle.whole_rows.specs.Numerators.{over_left, size_left}
use Rattle.whole_rows.specs.Plans.{IsShortPlan}
use Rattle.whole_rows.specs.Rows.{is_small, next_bound, next_den, numerator_of, stays_narrow, width_of}

int_div_one : (n : ℤ) → int_div n (pos 1) ≡ n
int_div_one (pos n) = ap pos (div-one n)
int_div_one (negsuc n) = ap (λ x. neg_ℤ (pos x)) (div-one (suc n))

-- nothing is divided out of an entry over 1
module _ (n : ℤ) (p : ℕ) (unit : p ≡ 1) where
  gcd_lem : gcd (unsigned_abs n) p ≡ 1
  gcd_lem = ap (gcd (unsigned_abs n)) unit ∙ gcd-one (unsigned_abs n)

  over_lem : over_left n p ≡ 1
  over_lem = ap₂ ◌/◌ unit gcd_lem ∙ div-one 1

  size_lem : size_left n p ≡ unsigned_abs n
  size_lem = ap (λ g. unsigned_abs n / g) gcd_lem ∙ div-one (unsigned_abs n)

  by_lem : int_div n (pos (gcd (unsigned_abs n) p)) ≡ n
  by_lem = ap (λ g. int_div n (pos g)) gcd_lem ∙ int_div_one n

below_lem : (a b c : ℕ) → a ≤ b → b < c → a < c
below_lem a b c h k = omega (arith, h, k)

-- the product of two sizes below 2^31 is below 2^62
product_lem : (a b : ℕ) → a < 2 ^ 31 → b < 2 ^ 31 → a * b < 2 ^ 62
product_lem a b h k =
    let left : a * b ≤ 2147483647 * b = mul-le-mul_right b (at_most_lem a h) in
    omega (arith, left, k)
  where
    at_most_lem : (n : ℕ) → n < 2 ^ 31 → n ≤ 2147483647
    at_most_lem n h = omega (arith, h)

module _ (q : ℕ) (step row : NarrowRow) (unit : step.den ≡ 1) where
  bound_is : next_bound q step row ≡ row.bound + unsigned_abs (numerator_of row q) * step.bound
  bound_is =
      ap₂ (λ o s. row.bound * o + s * step.bound) (over_lem (numerator_of row q) step.den unit)
      (size_lem (numerator_of row q) step.den unit)
      ∙ one_lem row.bound (unsigned_abs (numerator_of row q) * step.bound)
    where
      one_lem : (b w : ℕ) → b * 1 + w ≡ b + w
      one_lem b w = omega arith

  den_is : next_den q step row ≡ row.den
  den_is = ap (λ o. row.den * o) (over_lem (numerator_of row q) step.den unit) ∙ one_lem row.den
    where
      one_lem : (d : ℕ) → d * 1 ≡ d
      one_lem d = omega arith

  pub unit_small : stays_narrow q step row ≡ true
      → row.bound + unsigned_abs (numerator_of row q) * step.bound < 2 ^ 63
  unit_small stays =
      subst (λ n. n < 2 ^ 63) bound_is (ltb-true (next_bound q step row) (2 ^ 63)
      (and_parts (nat_lt (next_bound q step row) (2 ^ 63)) (nat_lt (next_den q step row) (2 ^ 63))
      stays).0)

  pub unit_planned : stays_narrow q step row ≡ true → q < width_of row
      → width_of step ≡ width_of row → (plan : ShortPlan)
      → plan.over ≡ 1 → plan.by ≡ numerator_of row q
      → plan.bound ≡ row.bound + unsigned_abs (numerator_of row q) * step.bound
      → plan.den ≡ row.den → IsShortPlan q step row plan
  unit_planned stays column width plan over by bound den = record {
    column = column;
    width = width;
    over = over ∙ sym (over_lem (numerator_of row q) step.den unit);
    by = by ∙ sym (by_lem (numerator_of row q) step.den unit);
    bound = bound ∙ sym bound_is;
    den = den ∙ sym den_is;
    small_bound = subst (λ n. n < 2 ^ 63) (sym bound) (unit_small stays);
    small_den = subst (λ n. n < 2 ^ 63) (sym den) row.small_den;
  }

  -- where both are small the row stays below 2^63
  pub small_stays : is_small step ≡ true → is_small row ≡ true → stays_narrow q step row ≡ true
  small_stays step_small row_small =
      ap₂ ◌&&◌ (lt-ltb (next_bound q step row) (2 ^ 63) (subst (λ n. n < 2 ^ 63) (sym bound_is)
      (sum_lem row.bound (unsigned_abs (numerator_of row q) * step.bound) row_bound
      (product_lem (unsigned_abs (numerator_of row q)) step.bound
      (below_lem _ _ _ (row.within.sizes q) row_bound) step_bound))))
      (lt-ltb (next_den q step row) (2 ^ 63) (subst (λ n. n < 2 ^ 63) (sym den_is) row.small_den))
    where
      row_bound : row.bound < 2 ^ 31
      row_bound =
          ltb-true row.bound (2 ^ 31)
          (and_parts (nat_lt row.den (2 ^ 31)) (nat_lt row.bound (2 ^ 31)) row_small).1

      step_bound : step.bound < 2 ^ 31
      step_bound =
          ltb-true step.bound (2 ^ 31)
          (and_parts (nat_lt step.den (2 ^ 31)) (nat_lt step.bound (2 ^ 31)) step_small).1

      sum_lem : (a b : ℕ) → a < 2 ^ 31 → b < 2 ^ 62 → a + b < 2 ^ 63
      sum_lem a b h k = omega (arith, h, k)
