-- The number of a numeral, by the sign of its exponent, and where all its digits are zeros.
use Rattle.std.proofs.Common.{◌≡◌, ℕ, ◌+◌, ◌*◌, ◌^◌, ◌<◌, Bool, true, false, cond, ◌&&◌, not, List, ◌++◌, length, pos, refl, sym, ◌∙◌, ap, ap₂, arith, add-zero, mul-one, mul-pos, zero-mul, Option, Some, None, Decides, Result, Ok, Err, OkIff, ℤ, unsigned_abs, subst}
use Rattle.std.specs.Result.{result_ok}
use Rattle.std.specs.Option.{SomeIff}
use Rattle.std.specs.Str.Parse.{AllDigits, digits_value, starts_with_minus}
use Rattle.std.proofs.lemmas.Bool.{and_parts}
use Rattle.fast_float.specs.Text.{Parts, scan}
use Rattle.ratio_core.specs.Rational.{Fits, Rational, fits, fraction, reduce, signed, whole_ℚ, zero_ℚ}
use Rattle.ratio_core.specs.RationalLaws.{fits_Decides, reduce_itself}
use Rattle.mof_text.specs.Decimal.{are_zeros, over_ten, times_ten}
use Rattle.mof_text.specs.Numeral.{fitting, is_colon_next, is_json_number, is_long, is_replaced, magnitude_of, number_of, printed, quoted, replaced, replacement_of}
use Rattle.mof_text.proofs.DecimalLaws.{power_pos}
use Rattle.mof_text.proofs.DigitLaws.{some_value, value-append, zeros_value}
use Rattle.mof_text.proofs.Fractions.{same_over}

-- ---- zero

signed_zero : (s : Bool) → signed s 0 ≡ pos 0
signed_zero true = refl
signed_zero false = refl

zero_over : (s : Bool) (d : ℕ) → 0 < d → reduce (signed s 0) d ≡ zero_ℚ
unfolding zero_ℚ whole_ℚ
zero_over s d h =
    same_over s 0 d 0 1 h (omega arith) (omega arith) ∙ ap (λ z. reduce z 1) (signed_zero s)
    ∙ reduce_itself (whole_ℚ (pos 0))

pub number_zero : (s : Bool) (p : Parts) → are_zeros p.whole ≡ true → are_zeros p.fraction ≡ true
    → number_of s p ≡ zero_ℚ
unfolding number_of
number_zero s p e f =
    ap (λ n. reduce (signed s n) (10 ^ (length p.fraction + cond p.exponent_negative
    (digits_value 10 p.exponent) 0)))
    (nothing_lem (digits_value 10 p.whole) (10 ^ length p.fraction) (digits_value 10 p.fraction)
    (10 ^ cond p.exponent_negative 0 (digits_value 10 p.exponent))
    (value-append p.whole p.fraction) (zeros_value p.whole e) (zeros_value p.fraction f))
    ∙ zero_over s _ (power_pos _)
  where
    nothing_lem : (a t b k : ℕ) → digits_value 10 (p.whole ++ p.fraction) ≡ a * t + b → a ≡ 0
        → b ≡ 0 → digits_value 10 (p.whole ++ p.fraction) * k ≡ 0
    nothing_lem a t b k v ea eb =
        let nothing : digits_value 10 (p.whole ++ p.fraction) ≡ 0 =
        omega (arith, v, eb, ap (λ n. n * t) ea) in
        ap (λ n. n * k) nothing ∙ zero-mul k

-- some digit is no zero
first_some : (b : Bool) (xs ys : List ℕ) → AllDigits 10 xs → AllDigits 10 ys → are_zeros xs ≡ b
    → (b && are_zeros ys) ≡ false → 0 < digits_value 10 (xs ++ ys)
first_some true xs ys h k is rest = omega (arith, value-append xs ys, some_value ys k rest)
first_some false xs ys h k is rest =
    left_lem (digits_value 10 xs) (10 ^ length ys) (digits_value 10 ys) _
    (mul-pos (some_value xs h is) (power_pos (length ys))) (value-append xs ys)
  where
    left_lem : (a t b x : ℕ) → 0 < a * t → x ≡ a * t + b → 0 < x
    left_lem a t b x h v = omega (arith, h, v)

pub some_digits : (xs ys : List ℕ) → AllDigits 10 xs → AllDigits 10 ys
    → (are_zeros xs && are_zeros ys) ≡ false → 0 < digits_value 10 (xs ++ ys)
some_digits xs ys h k e = first_some (are_zeros xs) xs ys h k refl e

-- ---- what fits

pub fitting_is : (o : Option Rational) (q : Rational) → SomeIff o (Fits q) q → o ≡ fitting q
unfolding fitting
fitting_is o q some = by_test (fits q) o q (fits_Decides q) some
  where
    by_test : (b : Bool) (o : Option Rational) (q : Rational) → Decides b (Fits q)
        → SomeIff o (Fits q) q → o ≡ cond b (Some q) None
    by_test true (Some p) q h some = ap Some some.1
    by_test true None q h some = absurd (some (h.0 refl))
    by_test false (Some p) q h some = let no : false ≡ true = h.1 some.0 in cc
    by_test false None q h some = refl

-- ---- a number by the parts of its numeral

module _ (s : Bool) (p : Parts) {xs ys : List ℕ} {power : ℕ} (whole_is : xs ≡ p.whole)
    (fraction_is : ys ≡ p.fraction) (power_is : power ≡ digits_value 10 p.exponent) where
  pub number_by : (t : Bool) → p.exponent_negative ≡ t
      → reduce (signed s (digits_value 10 (xs ++ ys) * 10 ^ cond t 0 power))
      (10 ^ (length ys + cond t power 0)) ≡ number_of s p
  unfolding number_of
  number_by t e = λ i. reduce (signed s (digits_value 10 (whole_is i ++ fraction_is i) * 10
      ^ cond (sym e i) 0 (power_is i))) (10 ^ (length (fraction_is i)
      + cond (sym e i) (power_is i) 0))

  -- a point moved left, and right
  pub down_by : p.exponent_negative ≡ true → over_ten s xs ys power ≡ number_of s p
  down_by e =
      ap (λ n. reduce (signed s n) (10 ^ (length ys + power)))
      (sym (mul-one (digits_value 10 (xs ++ ys)))) ∙ number_by true e

  pub up_by : p.exponent_negative ≡ false → times_ten s xs ys power ≡ number_of s p
  up_by e =
      ap (λ n. reduce (signed s (digits_value 10 (xs ++ ys) * 10 ^ power)) (10 ^ n))
      (sym (add-zero (length ys))) ∙ number_by false e

-- ---- a run and its parts

module _ (run rest : List ℕ) {front : List ℕ} {p : Parts} {len : ℕ}
    (front_is : front ≡ magnitude_of run) (parts_is : p ≡ scan front)
    (len_is : len ≡ length front) where
  abbrev tested : Bool
  tested = is_json_number p len && is_long run p && not (is_colon_next rest)

  test_is : tested ≡ is_replaced run rest
  test_is =
      ap₂ (λ (q : Parts) n. is_json_number q n && is_long run q && not (is_colon_next rest))
      (parts_is ∙ ap scan front_is) (len_is ∙ ap length front_is)

  pub run_left : tested ≡ false → replaced run rest ≡ run
  unfolding replaced
  run_left e = ap (λ b. cond b (replacement_of run) run) (sym test_is ∙ e)

  pub run_replaced : (s : Bool) (o : Option Rational) → s ≡ starts_with_minus run → tested ≡ true
      → SomeIff o (Fits (number_of s p)) (number_of s p) → quoted (printed o) ≡ replaced run rest
  unfolding replaced
  run_replaced s o sign e some =
      ap (λ t. quoted (printed t)) (fitting_is o (number_of s p) some
      ∙ ap₂ (λ b (q : Parts). fitting (number_of b q)) sign (parts_is ∙ ap scan front_is))
      ∙ sym (ap (λ b. cond b (replacement_of run) run) (sym test_is ∙ e))

-- ---- a number that is 0

zero_fits : Fits zero_ℚ
unfolding zero_ℚ whole_ℚ
zero_fits = record { num = omega arith; den = omega arith }

pub zero_some : (s : Bool) (p : Parts) (xs ys : List ℕ) (q : Rational) → xs ≡ p.whole
    → ys ≡ p.fraction → (are_zeros xs && are_zeros ys) ≡ true → q ≡ zero_ℚ
    → Fits (number_of s p) × (q ≡ number_of s p)
zero_some s p xs ys q e f zeros is =
    let parts : (are_zeros xs ≡ true) × (are_zeros ys ≡ true) =
    and_parts (are_zeros xs) (are_zeros ys) zeros in
    let number : number_of s p ≡ zero_ℚ = number_zero s p (sym (ap are_zeros e) ∙ parts.0)
    (sym (ap are_zeros f) ∙ parts.1) in
    (subst (λ (t : Rational). Fits t) (sym number) zero_fits, is ∙ sym number)

-- ---- the fraction that is made

pub quotient_is : {E : Type 0} (s : Bool) (n d : ℕ) (z w : ℤ) (r : Result Rational E)
    (o : Option Rational) → z ≡ signed s n → w ≡ pos d → 0 < d → o ≡ result_ok r
    → OkIff r ((w ≡ pos 0 → ⊥) × Fits (fraction z w)) (fraction z w)
    → SomeIff o (Fits (reduce (signed s n) d)) (reduce (signed s n) d)
unfolding fraction
quotient_is {E = E} s n d z w r o ez ew above eo exact =
    subst (λ (t : Option Rational). SomeIff t (Fits (reduce (signed s n) d))
    (reduce (signed s n) d)) (sym eo) (by_result r exact)
  where
    same : fraction z w ≡ reduce (signed s n) d
    same = ap₂ fraction ez ew

    some : w ≡ pos 0 → ⊥
    some e = omega (arith, above, ap unsigned_abs (sym ew ∙ e))

    by_result : (r : Result Rational E) → OkIff r ((w ≡ pos 0 → ⊥) × Fits (fraction z w))
        (fraction z w) → SomeIff (result_ok r) (Fits (reduce (signed s n) d))
        (reduce (signed s n) d)
    by_result (Ok x) h = (subst (λ (t : Rational). Fits t) same h.0.1, h.1 ∙ same)
    by_result (Err e) h = λ f. h (some, subst (λ (t : Rational). Fits t) (sym same) f)
