-- A kept fraction against the number that it stands for: n and d are the parts kept, and q is the
-- number.
use Rattle.std.proofs.Common.{◌≡◌, ℕ, zero, suc, ◌^◌, ◌<◌, Bool, true, false, ℤ, pos, negsuc, neg_ℤ, ◌-ℤ◌, unsigned_abs, sym, ◌∙◌, ap, subst, arith, refl, to_z, of_z, SFits, to_z-of_z}
use Rattle.std.proofs.lemmas.Int.{ints}
use mir.Syntax.{w128}
use Rattle.std.proofs.Common.{◌/◌, ◌≤◌, ◌⊎◌, ◌*ℤ◌, inl, inr, zero-mul}
use Rattle.std.proofs.Math.Nat.{zero-div}
use Rattle.std.specs.Prelude.{int_div, int_lt}
use Rattle.std.proofs.Common.{le-ltb, zero-le, not, ap₂, OkIff, Result, Ok, Err, IsErr, true≢false}
use mathlib.Core.Bool.{beq}
use borrow.Author.Differences.{same_in}
use Rattle.ratio_core.specs.Gcd.{gcd}
use Rattle.ratio_core.specs.Rational.{Rational, IsStored, IsReduced, Fits, reduce, fraction, signed, whole_ℚ, zero_ℚ, neg_ℚ, whole_reduced}
use Rattle.ratio_core.specs.RationalLaws.{reduce_reduced, reduce_itself, reduce-num, reduce-den, same_from_cross, times_is, unsigned_abs-signed}

module _ (n : ℤ) (d : ℕ) (q : Rational) (view : reduce n d ≡ q) (kept : IsStored n d) where
  pub kept_num : n ≡ q.num
  kept_num = sym (ap (λ e. e.0) (reduce_reduced n d kept.reduced)) ∙ ap (λ r. r.num) view

  pub kept_den : d ≡ q.den
  kept_den = sym (ap (λ e. e.1) (reduce_reduced n d kept.reduced)) ∙ ap (λ r. r.den) view

  pub kept_fits : Fits q
  kept_fits =
      record {
        num = subst (λ m. unsigned_abs m < 2 ^ 127) kept_num kept.num;
        den = subst (λ m. m < 2 ^ 127) kept_den kept.den;
      }

  pub kept_range : SFits w128 n
  kept_range = omega (arith, ints, kept.num)

  pub kept_bits : to_z w128 (of_z w128 n) ≡ q.num
  kept_bits = to_z-of_z kept_range ∙ kept_num

  neg_bits : to_z w128 (of_z w128 (pos 0 -ℤ to_z w128 (of_z w128 n))) ≡ neg_ℤ n
  neg_bits =
      let bits : to_z w128 (of_z w128 n) ≡ n = to_z-of_z kept_range in
      let inner : pos 0 -ℤ to_z w128 (of_z w128 n) ≡ neg_ℤ n = omega (arith, ints, kept.num) in
      let range : SFits w128 (neg_ℤ n) = omega (arith, ints, kept.num) in
      ap (λ z. to_z w128 (of_z w128 z)) inner ∙ to_z-of_z range

  pub kept_neg : reduce (to_z w128 (of_z w128 (pos 0 -ℤ to_z w128 (of_z w128 n)))) d ≡ neg_ℚ q
  unfolding neg_ℚ
  kept_neg = ap₂ reduce (neg_bits ∙ ap neg_ℤ kept_num) kept_den

  pub kept_neg_stored : IsStored (to_z w128 (of_z w128 (pos 0 -ℤ to_z w128 (of_z w128 n)))) d
  kept_neg_stored =
      subst (λ z. IsStored z d) (sym neg_bits) (record {
        reduced = (kept.reduced.0, ap (λ m. gcd m d) (sym (size_lem n)) ∙ kept.reduced.1);
        num = subst (λ m. m < 2 ^ 127) (size_lem n) kept.num;
        den = kept.den;
      })
    where
      size_lem : (z : ℤ) → unsigned_abs z ≡ unsigned_abs (neg_ℤ z)
      size_lem (pos zero) = refl
      size_lem (pos (suc a)) = refl
      size_lem (negsuc a) = refl

-- ---- whole numbers

pub reduce_whole : (n : ℤ) → reduce n 1 ≡ whole_ℚ n
unfolding whole_ℚ
reduce_whole n = reduce_itself (whole_ℚ n)

pub whole_stored : (n : ℤ) → unsigned_abs n < 2 ^ 127 → IsStored n 1
whole_stored n h = record { reduced = whole_reduced n; num = h; den = omega arith }

pub times_one : (z : ℤ) → z *ℤ pos 1 ≡ z
times_one z = same_in _ _ (omega (arith, times_is z 1))

-- a number is 0 exactly where its numerator is
pub is_zero_lem : (q : Rational) → unsigned_abs q.num ≡ 0 → q ≡ zero_ℚ
unfolding zero_ℚ whole_ℚ
is_zero_lem q e =
    same_from_cross q zero_ℚ (times_one q.num ∙ abs_zero q.num e ∙ sym (zero_times q.den))
  where
    zero_times : (d : ℕ) → pos 0 *ℤ pos d ≡ pos 0
    zero_times d = ap pos (zero-mul d)

    abs_zero : (z : ℤ) → unsigned_abs z ≡ 0 → z ≡ pos 0
    abs_zero (pos n) h = ap pos h
    abs_zero (negsuc n) h = absurd (omega arith)

pub zero_num : (q : Rational) → q ≡ zero_ℚ → unsigned_abs q.num ≡ 0
unfolding zero_ℚ whole_ℚ
zero_num q e = ap (λ r. unsigned_abs r.num) e

-- ---- lowest terms of a sign, a size and a denominator

int_div-signed : (s : Bool) (n g : ℕ) → int_div (signed s n) (pos g) ≡ signed s (n / g)
int_div-signed false n g = refl
int_div-signed true zero g = simp zero-div
int_div-signed true (suc n) g = refl

-- the code may keep n over d, which is q, and P holds, which says that q fits
pub record IsMade (n : ℤ) (d : ℕ) (q : Rational) (P : Type 0) : Type 0 where
  pub stored : IsStored n d
  pub value : reduce n d ≡ q
  pub fits : P

-- the parts of a number, where they fit
pub parts_made : (q : Rational) (n : ℤ) (d : ℕ) → q.num ≡ n → q.den ≡ d → unsigned_abs n < 2 ^ 127
    → d < 2 ^ 127 → IsMade n d q (Fits q)
parts_made q n d e f h k = record {
  stored = record {
    reduced = subst (λ x. IsReduced x d) e (subst (IsReduced q.num) f q.reduced);
    num = h;
    den = k;
  };
  value = sym (ap₂ reduce e f) ∙ reduce_itself q;
  fits = record {
    num = subst (λ x. unsigned_abs x < 2 ^ 127) (sym e) h;
    den = subst (λ x. x < 2 ^ 127) (sym f) k;
  };
}

module _ (s : Bool) (n d : ℕ) {g size den : ℕ} (common : g ≡ gcd n d) (above : 0 < d)
    (size_is : size ≡ n / g) (den_is : den ≡ d / g) where
  divisor_is : gcd (unsigned_abs (signed s n)) d ≡ g
  divisor_is = ap (λ m. gcd m d) (unsigned_abs-signed s n) ∙ sym common

  lowest_num : (reduce (signed s n) d).num ≡ signed s size
  lowest_num =
      reduce-num (signed s n) d above ∙ ap (λ x. int_div (signed s n) (pos x)) divisor_is
      ∙ int_div-signed s n g ∙ ap (signed s) (sym size_is)

  lowest_den : (reduce (signed s n) d).den ≡ den
  lowest_den = reduce-den (signed s n) d above ∙ ap (λ x. d / x) divisor_is ∙ sym den_is

  pub lowest_made : size < 2 ^ 127 → den < 2 ^ 127
      → IsMade (signed s size) den (reduce (signed s n) d) (Fits (reduce (signed s n) d))
  lowest_made h k =
      parts_made (reduce (signed s n) d) (signed s size) den lowest_num lowest_den
      (omega (arith, unsigned_abs-signed s size, h)) k

  pub lowest_refuses : (2 ^ 127 ≤ size) ⊎ (2 ^ 127 ≤ den) → ¬ Fits (reduce (signed s n) d)
  lowest_refuses (inl h) f =
      omega (arith, ap unsigned_abs lowest_num, unsigned_abs-signed s size, h, f.num)
  lowest_refuses (inr h) f = omega (arith, lowest_den, h, f.den)

-- ---- a fraction by the signs of its parts

pub not_below_zero : (a : ℕ) → int_lt (pos a) (pos 0) ≡ false
not_below_zero a = le-ltb a 0 zero-le

signs_lem : (n d : ℤ) → reduce (signed (not (beq (int_lt n (pos 0)) (int_lt d (pos 0))))
    (unsigned_abs n)) (unsigned_abs d) ≡ fraction n d
unfolding fraction
signs_lem (pos a) (pos b) =
    ap₂ (λ s t. reduce (signed (not (beq s t)) a) b) (not_below_zero a) (not_below_zero b)
signs_lem (pos a) (negsuc b) =
    ap (λ s. reduce (signed (not (beq s true)) a) (suc b)) (not_below_zero a)
signs_lem (negsuc a) (pos b) =
    ap (λ t. reduce (signed (not (beq true t)) (suc a)) b) (not_below_zero b)
signs_lem (negsuc a) (negsuc b) = refl

-- the same, of what the code hands on: k and l are the numbers n and d that went to bits and back
pub fraction_signs : (n d k l : ℤ) (size den : ℕ) → k ≡ n → l ≡ d → size ≡ unsigned_abs k
    → den ≡ unsigned_abs l → reduce (signed (not (beq (int_lt k (pos 0)) (int_lt l (pos 0)))) size)
    den ≡ fraction n d
fraction_signs n d k l size den e f g h =
    ap₂ (λ a b. reduce (signed (not (beq (int_lt k (pos 0)) (int_lt l (pos 0)))) a) b) g h
    ∙ signs_lem k l ∙ ap₂ fraction e f

-- an exact answer at one of two equal numbers is one at the other
pub exact_along : {E P : Type 0} (r : Result Rational E) (p q : Rational) → p ≡ q → P
    → OkIff r (Fits p) p → OkIff r (P × Fits q) q
exact_along (Ok x) p q e h k = ((h, subst Fits e k.0), k.1 ∙ e)
exact_along (Err x) p q e h k = λ w. k (subst Fits (sym e) w.1)

-- a refusal is exact where the condition fails
pub refused_is : {T E P : Type 0} (v : T) (r : Result T E) → IsErr r → ¬ P → OkIff r P v
refused_is v (Err e) h n = n
refused_is v (Ok x) h n = absurd (true≢false (sym h))
