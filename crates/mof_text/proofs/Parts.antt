-- Numbers before and behind a point, of two lists of digits and zeros.
use Rattle.std.proofs.Common.{◌≡◌, ℕ, ◌+◌, ◌*◌, ◌^◌, ◌<◌, ◌≤◌, Bool, Option, Some, None, List, [], ◌∷◌, ◌++◌, length, take, drop, ◌-◌, replicate, pos, sym, ◌∙◌, ap, ap₂, subst, arith, mul-pos, add-zero}
use Rattle.std.proofs.Math.Nat.{mul-le-mul, mul-le-mul_left, pow-le-pow_right}
use Rattle.std.proofs.lemmas.Int.Digits.{digits_value-lt}
use Rattle.std.proofs.lemmas.List.{length-append, length-replicate}
use Rattle.std.proofs.lemmas.Nat.{pow-add}
use Rattle.std.specs.Option.{SomeIff}
use Rattle.std.specs.Str.Parse.{AllDigits, digits_value, digits_value_after}
use Rattle.ratio_core.specs.Gcd.{gcd}
use Rattle.ratio_core.specs.Rational.{Fits, Rational, reduce, signed}
use Rattle.mof_text.specs.Decimal.{MovesBy, over_ten, times_ten}
use Rattle.mof_text.specs.Tenths.{TellsFraction}
use Rattle.mof_text.specs.declared.tenths.Tenths.{Tenths}
use Rattle.mof_text.proofs.DecimalLaws.{both_is, fine_unfit, over_ten_is, power_pos, size_unfit, times_ten_is}
use Rattle.mof_text.proofs.DigitLaws.{after-append, after_is, grows, value-append, value_zeros}
use Rattle.mof_text.proofs.Fractions.{gcd-shift, lowest_is, unfit_num}
use Rattle.mof_text.proofs.Steps.{fine_on, over_next}

zeros_are : (n : ℕ) (ds : List ℕ) → ds ≡ replicate n 48 → (digits_value 10 ds ≡ 0) × (length ds ≡ n)
zeros_are n ds e = (ap (digits_value 10) e ∙ value_zeros n, ap length e ∙ length-replicate n 48)

-- ---- behind the point

module _ (zeros : ℕ) (first last : List ℕ) where
  abbrev all : ℕ
  all = digits_value 10 (first ++ last)

  abbrev scale : ℕ
  scale = 10 ^ (zeros + length first + length last)

  scale_lem : scale ≡ 10 ^ zeros * 10 ^ length first * 10 ^ length last
  scale_lem =
      pow-add 10 (zeros + length first) (length last) ∙ ap (λ t. t * 10 ^ length last)
      (pow-add 10 zeros (length first))

  pub last_fine : (num den : ℕ) → num ≡ 0 → den ≡ 1
      → 2 ^ 127 ≤ (reduce (pos (digits_value 10 last * den + num)) (10 ^ length last * den)).den
      → 2 ^ 127 ≤ (reduce (pos all) scale).den
  last_fine num den e k =
      fine_on num den 0 1 (digits_value 10 last) (10 ^ length last) (digits_value 10 first)
      (10 ^ zeros * 10 ^ length first) all scale
      (omega (arith, k)) (omega arith) (power_pos (length last))
      (mul-pos (power_pos zeros) (power_pos (length first)))
      (omega (arith, e))
      (omega (arith, value-append first last))
      (omega (arith, scale_lem))

  -- the fraction of the last digits
  pub last_over : (num den n d : ℕ) → num ≡ 0 → den ≡ 1
      → n * (10 ^ length last * den) ≡ (digits_value 10 last * den + num) * d
      → n * 10 ^ length last ≡ digits_value 10 last * d
  last_over num den n d e k over =
      over_lem (10 ^ length last) (digits_value 10 last) num den n d e k over
    where
      over_lem : (p v num den n d : ℕ) → num ≡ 0 → den ≡ 1 → n * (p * den) ≡ (v * den + num) * d
          → n * p ≡ v * d
      over_lem p v num den n d e k over =
          omega (
            arith,
            subst (λ x. n * (p * den) ≡ (v * den + x) * d) e over,
            ap (λ x. n * (p * x)) k,
            ap (λ x. (v * x + 0) * d) k,
          )

  module _ (n d : ℕ) (above : 0 < d) (over : n * 10 ^ length last ≡ digits_value 10 last * d) where
    pub first_fine : 2 ^ 127 ≤ (reduce (pos (digits_value 10 first * d + n))
        (10 ^ length first * d)).den → 2 ^ 127 ≤ (reduce (pos all) scale).den
    first_fine =
        fine_on n d (digits_value 10 last) (10 ^ length last) (digits_value 10 first)
        (10 ^ length first) 0 (10 ^ zeros) all scale
        above (power_pos (length last)) (power_pos (length first)) (power_pos zeros) over
        (omega (arith, value-append first last))
        (omega (arith, scale_lem))

    pub first_over : (n' d' : ℕ) → n' * (10 ^ length first * d)
        ≡ (digits_value 10 first * d + n) * d'
        → n' * (10 ^ length first * 10 ^ length last) ≡ all * d'
    first_over n' d' e =
        over_next n d (digits_value 10 last) (10 ^ length last) (digits_value 10 first)
        (10 ^ length first) n' d' above over e
        ∙ ap (λ t. t * d') (sym (value-append first last))

  pub whole_tells : (n d : ℕ) (ds : List ℕ) (o : Option Tenths) → 0 < d
      → n * (10 ^ length first * 10 ^ length last) ≡ all * d → ds ≡ replicate zeros 48
      → TellsFraction (digits_value 10 ds * d + n) (10 ^ length ds * d) o
      → TellsFraction all scale o
  whole_tells n d ds None above over e tells =
      fine_on n d all (10 ^ length first * 10 ^ length last) 0 (10 ^ zeros) 0 1 all scale
      above (mul-pos (power_pos (length first)) (power_pos (length last))) (power_pos zeros)
      (omega arith) over
      (omega arith)
      (omega (arith, scale_lem))
      (subst (λ v. 2 ^ 127 ≤ (reduce (pos (v * d + n)) (10 ^ zeros * d)).den)
      (zeros_are zeros ds e).0
      (subst (λ k. 2 ^ 127 ≤ (reduce (pos (digits_value 10 ds * d + n)) (10 ^ k * d)).den)
      (zeros_are zeros ds e).1 tells))
  whole_tells n d ds (Some t) above over e tells =
      ap (λ x. t.num * x) (scale_lem ∙ regroup_lem (10 ^ zeros) (10 ^ length first)
      (10 ^ length last))
      ∙ over_next n d all (10 ^ length first * 10 ^ length last) 0 (10 ^ zeros) t.num
      t.den above over
      (subst (λ v. t.num * (10 ^ zeros * d) ≡ (v * d + n) * t.den) (zeros_are zeros ds e).0
      (subst (λ k. t.num * (10 ^ k * d) ≡ (digits_value 10 ds * d + n) * t.den)
      (zeros_are zeros ds e).1 tells))
      ∙ ap (λ x. x * t.den) (nothing_lem all (10 ^ length first * 10 ^ length last))
    where
      regroup_lem : (a b c : ℕ) → a * b * c ≡ a * (b * c)
      regroup_lem a b c = omega arith

      nothing_lem : (a m : ℕ) → 0 * m + a ≡ a
      nothing_lem a m = omega arith

-- ---- before the point

module _ (zeros : ℕ) (first last : List ℕ) where
  scaled_lem : (n : ℕ) → n ≤ n * 10 ^ zeros
  scaled_lem n = omega (arith, mul-le-mul_left n (power_pos zeros))

  pub first_large : ¬ (digits_value_after 10 0 first < 2 ^ 127)
      → ¬ (digits_value 10 (first ++ last) * 10 ^ zeros < 2 ^ 127)
  first_large h small =
      h (omega (
        arith,
        small,
        scaled_lem (digits_value 10 (first ++ last)),
        after-append 0 first last,
        grows (digits_value 10 first) last,
      ))

  pub last_large : (n : ℕ) → n ≡ digits_value_after 10 0 first
      → ¬ (digits_value_after 10 n last < 2 ^ 127)
      → ¬ (digits_value 10 (first ++ last) * 10 ^ zeros < 2 ^ 127)
  last_large n e h small =
      h (omega (
        arith,
        small,
        scaled_lem (digits_value 10 (first ++ last)),
        after-append 0 first last,
        ap (λ t. digits_value_after 10 t last) e,
      ))

  pub scaled_is : (n k : ℕ) (ds : List ℕ) (o : Option ℕ) → n ≡ digits_value_after 10 0 first
      → k ≡ digits_value_after 10 n last → ds ≡ replicate zeros 48
      → SomeIff o (digits_value_after 10 k ds < 2 ^ 127) (digits_value_after 10 k ds)
      → SomeIff o (digits_value 10 (first ++ last) * 10 ^ zeros < 2 ^ 127)
      (digits_value 10 (first ++ last) * 10 ^ zeros)
  scaled_is n k ds o en ek ed some =
      subst (λ v. SomeIff o (v < 2 ^ 127) v)
      (ap (digits_value_after 10 k) ed ∙ after_is k (replicate zeros 48)
      ∙ ap₂ (λ a b. k * 10 ^ a + b) (length-replicate zeros 48) (value_zeros zeros)
      ∙ add-zero (k * 10 ^ zeros)
      ∙ ap (λ t. t * 10 ^ zeros) (ek ∙ ap (λ t. digits_value_after 10 t last) en
      ∙ sym (after-append 0 first last)))
      some

-- ---- together

pub joined_unfit : (s : Bool) (a num den : ℕ) → num < den → gcd num den ≡ 1
    → 2 ^ 127 ≤ a * den + num → ¬ (Fits (reduce (signed s (a * den + num)) den))
joined_unfit s a num den below e past =
    unfit_num (reduce (signed s (a * den + num)) den)
    (omega (
      arith,
      past,
      (lowest_is s (a * den + num) den (omega arith) (gcd-shift a num den ∙ e)).0,
    ))

-- ---- answers

pub unfit_none : (o : Option Rational) (q : Rational) → o ≡ None → ¬ (Fits q) → SomeIff o (Fits q) q
unfit_none o q e unfit = subst (λ (t : Option Rational). SomeIff t (Fits q) q) (sym e) unfit

pub large_none : (o : Option ℕ) (n : ℕ) → o ≡ None → ¬ (n < 2 ^ 127) → SomeIff o (n < 2 ^ 127) n
large_none o n e large = subst (λ (t : Option ℕ). SomeIff t (n < 2 ^ 127) n) (sym e) large

pub fine_none : (o : Option Tenths) (n d : ℕ) → o ≡ None → 2 ^ 127 ≤ (reduce (pos n) d).den
    → TellsFraction n d o
fine_none o n d e fine = subst (λ (t : Option Tenths). TellsFraction n d t) (sym e) fine

pub same_fit : (o : Option Rational) (p q : Rational) → p ≡ q → SomeIff o (Fits p) p
    → SomeIff o (Fits q) q
same_fit o p q e some = subst (λ (t : Rational). SomeIff o (Fits t) t) e some

pub same_unfit : (p q : Rational) → p ≡ q → ¬ (Fits q) → ¬ (Fits p)
same_unfit p q e unfit = subst (λ (t : Rational). ¬ (Fits t)) (sym e) unfit

-- ---- a point that is moved left, and right

-- q is a whole number a, and f over m behind it
pub record IsBoth (s : Bool) (a f m : ℕ) (q : Rational) : Type 0 where
  pub above : 0 < m
  pub same : q ≡ reduce (signed s (a * m + f)) m

module _ {s : Bool} {a f m : ℕ} {q : Rational} (h : IsBoth s a f m q) where
  pub part_unfit : 2 ^ 127 ≤ (reduce (pos f) m).den → ¬ (Fits q)
  part_unfit fine = same_unfit _ _ h.same (fine_unfit s a f m h.above fine)

  pub whole_unfit : ¬ (a < 2 ^ 127) → ¬ (Fits q)
  whole_unfit large = same_unfit _ _ h.same (size_unfit s a f m h.above (omega (arith, large)))

  pub both_joined : (o : Option Rational) (size num den : ℕ) → num < den → size ≡ a
      → num * m ≡ f * den → SomeIff o (Fits (reduce (signed s (size * den + num)) den))
      (reduce (signed s (size * den + num)) den) → SomeIff o (Fits q) q
  both_joined o size num den below size_is over =
      same_fit o (reduce (signed s (size * den + num)) den) q
      (ap (λ a. reduce (signed s (a * den + num)) den) size_is
      ∙ both_is s a f m h.above num den (omega arith) over ∙ sym h.same)

module _ (s : Bool) (whole fraction : List ℕ) (power moved zeros : ℕ) (before behind : List ℕ) where
  pub over_both : MovesBy (length whole) power moved zeros
      → before ≡ take (length whole - moved) whole → behind ≡ drop (length whole - moved) whole
      → IsBoth s (digits_value 10 (before ++ []) * 10 ^ 0) (digits_value 10 (behind ++ fraction))
      (10 ^ (zeros + length behind + length fraction)) (over_ten s whole fraction power)
  over_both h e k = record {
    above = power_pos (zeros + length behind + length fraction);
    same = over_ten_is s whole fraction power moved zeros h
        ∙ ap₂ (λ b c. reduce (signed s (digits_value 10 (b ++ []) * 10 ^ 0 * 10
        ^ (zeros + length c + length fraction) + digits_value 10 (c ++ fraction)))
        (10 ^ (zeros + length c + length fraction))) (sym e) (sym k);
  }

  pub times_both : MovesBy (length fraction) power moved zeros → before ≡ take moved fraction
      → behind ≡ drop moved fraction
      → IsBoth s (digits_value 10 (whole ++ before) * 10 ^ zeros) (digits_value 10 ([] ++ behind))
      (10 ^ (0 + 0 + length behind)) (times_ten s whole fraction power)
  times_both h e k = record {
    above = power_pos (0 + 0 + length behind);
    same = times_ten_is s whole fraction power moved zeros h
        ∙ ap₂ (λ b c. reduce (signed s (digits_value 10 (whole ++ b) * 10 ^ zeros * 10
        ^ (0 + 0 + length c) + digits_value 10 ([] ++ c))) (10 ^ (0 + 0 + length c)))
        (sym e) (sym k);
  }

-- ---- few digits

pub AllDigits-append : (xs ys : List ℕ) → AllDigits 10 xs → AllDigits 10 ys
    → AllDigits 10 (xs ++ ys)
AllDigits-append [] ys h k = k
AllDigits-append (c ∷ cs) ys h k = (h.0, AllDigits-append cs ys h.1 k)

-- 18 digits and as great a power stay below 128 bits, also while they are read
pub short_digits : (xs ys : List ℕ) (up : ℕ) → AllDigits 10 xs → AllDigits 10 ys
    → length xs + length ys ≤ 18 → up ≤ 18 → (digits_value_after 10 0 xs < 2 ^ 127)
    × (digits_value_after 10 (digits_value_after 10 0 xs) ys < 2 ^ 127)
    × (digits_value 10 (xs ++ ys) * 10 ^ up < 2 ^ 127)
short_digits xs ys up h k few small =
    let length_is : length (xs ++ ys) ≤ 18 = omega (arith, length-append xs ys, few) in
    let all : 10 ^ length (xs ++ ys) ≤ 10 ^ 18 =
    pow-le-pow_right {n = 10} (power_pos 1) length_is in
    let scale : 10 ^ up ≤ 10 ^ 18 = pow-le-pow_right {n = 10} (power_pos 1) small in
    let bounds = bound_lem (digits_value 10 (xs ++ ys)) (10 ^ up) (10 ^ length (xs ++ ys))
    (digits_value-lt 10 (xs ++ ys) (AllDigits-append xs ys h k)) all scale in (
      omega (arith, bounds.0, after-append 0 xs ys, grows (digits_value 10 xs) ys),
      omega (arith, bounds.0, after-append 0 xs ys),
      bounds.1,
    )
  where
    bound_lem : (v p t : ℕ) → v < t → t ≤ 10 ^ 18 → p ≤ 10 ^ 18 → (v < 10 ^ 18) × (v * p < 2 ^ 127)
    bound_lem v p t h k l =
        let low : v ≤ 10 ^ 18 = omega (arith, h, k) in
        (omega (arith, h, k), omega (arith, mul-le-mul low l))

pub small_power : (n : ℕ) → n ≤ 36 → 10 ^ n < 2 ^ 127
small_power n h =
    let most : 10 ^ n ≤ 10 ^ 36 = pow-le-pow_right {n = 10} (power_pos 1) h in
    omega arith
