-- Digits before and behind a point: the number of both, and what of it doesn't fit.
use Rattle.std.proofs.Common.{◌≡◌, ℕ, ◌+◌, ◌-◌, ◌*◌, ◌^◌, ◌<◌, ◌≤◌, ◌⊎◌, inl, inr, Bool, List, [], ◌++◌, length, take, drop, pos, sym, ◌∙◌, ap, ap₂, subst, arith, append-nil, append_assoc, mul-one}
use Rattle.std.proofs.Math.Nat.{mul-le-mul_right, one-le-pow, pow-le-pow_right}
use Rattle.std.proofs.lemmas.Int.Digits.{digits_value-lt}
use Rattle.std.proofs.lemmas.Nat.{pow-add}
use Rattle.std.proofs.lemmas.List.{take-append-drop, length-append, length-drop, drop_all}
use Rattle.std.specs.Str.Parse.{AllDigits, digits_value}
use Rattle.ratio_core.specs.Rational.{Fits, Rational, reduce, signed}
use Rattle.mof_text.specs.Decimal.{MovesBy, over_ten, times_ten}
use Rattle.mof_text.proofs.DigitLaws.{value-append}
use Rattle.mof_text.proofs.Fractions.{den_above, den_stays, num_above, same_over, unfit_den, unfit_num}

pub power_pos : (n : ℕ) → 0 < 10 ^ n
power_pos n = one-le-pow n 10 (omega arith)

past_lem : (n : ℕ) → 10 ^ 39 ≤ n → 2 ^ 127 ≤ n
past_lem n h = omega arith

ten : 0 < 10
ten = omega arith

-- ---- a whole number and a fraction

module _ (s : Bool) (a f m : ℕ) (above : 0 < m) where
  abbrev pub both : Rational
  both = reduce (signed s (a * m + f)) m

  one_lem : reduce (signed s (a * m + f)) (m * 1) ≡ both
  one_lem = ap (reduce (signed s (a * m + f))) (mul-one m)

  pub fine_unfit : 2 ^ 127 ≤ (reduce (pos f) m).den → ¬ (Fits both)
  fine_unfit h =
      unfit_den both (omega (
        arith,
        h,
        den_stays s f m a 1 above (omega arith),
        ap (λ (q : Rational). q.den) one_lem,
      ))

  pub size_unfit : 2 ^ 127 ≤ a → ¬ (Fits both)
  size_unfit h = unfit_num both (omega (arith, h, num_above s (a * m + f) m a above (omega arith)))

  pub both_is : (num den : ℕ) → 0 < den → num * m ≡ f * den
      → reduce (signed s (a * den + num)) den ≡ both
  both_is num den h e = same_over s (a * den + num) den (a * m + f) m h above (omega (arith, e))

-- ---- where the point goes

module _ (s : Bool) (whole fraction : List ℕ) (power moved zeros : ℕ) where
  -- digits of the whole part go behind the point
  pub over_ten_is : MovesBy (length whole) power moved zeros
      → over_ten s whole fraction power
      ≡ both s (digits_value 10 (take (length whole - moved) whole ++ []) * 10 ^ 0)
      (digits_value 10 (drop (length whole - moved) whole ++ fraction))
      (10 ^ (zeros + length (drop (length whole - moved) whole) + length fraction)) (power_pos _)
  over_ten_is h =
      let count : length (drop (length whole - moved) whole) ≡ moved =
      length-drop (length whole - moved) whole ∙ count_lem (length whole) moved h.within in
      let scale : length fraction + power ≡ zeros + length (drop (length whole - moved) whole)
      + length fraction = omega (arith, count, h.power_is) in
      let kept : length whole - moved + moved ≡ length whole =
      kept_lem (length whole) moved h.within in
      let value : digits_value 10 (whole ++ fraction)
      ≡ digits_value 10 (take (length whole - moved) whole) * 10 ^ length
      (drop (length whole - moved) whole ++ fraction)
      + digits_value 10 (drop (length whole - moved) whole ++ fraction) =
      ap (λ t. digits_value 10 (t ++ fraction))
      (sym (take-append-drop (length whole - moved) whole))
      ∙ ap (digits_value 10) (append_assoc (take (length whole - moved) whole)
      (drop (length whole - moved) whole) fraction)
      ∙ value-append (take (length whole - moved) whole)
      (drop (length whole - moved) whole ++ fraction) in
      ap₂ (λ n d. reduce (signed s n) d)
      (value ∙ ap (λ t. t + digits_value 10 (drop (length whole - moved) whole ++ fraction))
      (front_lem (length whole - moved) kept h.past_all))
      (ap (λ n. 10 ^ n) scale)
    where
      count_lem : (n k : ℕ) → k ≤ n → n - (n - k) ≡ k
      count_lem n k l = omega arith

      kept_lem : (n k : ℕ) → k ≤ n → n - k + k ≡ n
      kept_lem n k l = omega arith

      count_all : (kept : ℕ) → zeros ≡ 0 → length (drop kept whole ++ fraction)
          ≡ zeros + length (drop kept whole) + length fraction
      count_all kept none = omega (arith, length-append (drop kept whole) fraction, none)

      zero_lem : (a b c : ℕ) → 0 * a ≡ 0 * b * c
      zero_lem a b c = omega arith

      one_lem : (a b : ℕ) → b ≡ a → a ≡ b * 10 ^ 0
      one_lem a b e = omega arith

      front_lem : (kept : ℕ) → kept + moved ≡ length whole → (moved ≡ length whole) ⊎ (zeros ≡ 0)
          → digits_value 10 (take kept whole) * 10 ^ length (drop kept whole ++ fraction)
          ≡ digits_value 10 (take kept whole ++ []) * 10 ^ 0 * 10
          ^ (zeros + length (drop kept whole) + length fraction)
      front_lem kept sum (inl all) =
          let none : kept ≡ 0 = omega (arith, sum, all) in
          let nothing : digits_value 10 (take kept whole) ≡ 0 =
          ap (λ k. digits_value 10 (take k whole)) none in
          let nothing' : digits_value 10 (take kept whole ++ []) ≡ 0 =
          ap (digits_value 10) (append-nil (take kept whole)) ∙ nothing in
          ap (λ t. t * 10 ^ length (drop kept whole ++ fraction)) nothing
          ∙ zero_lem (10 ^ length (drop kept whole ++ fraction)) (10 ^ 0)
          (10 ^ (zeros + length (drop kept whole) + length fraction))
          ∙ sym (ap (λ t. t * 10 ^ 0 * 10 ^ (zeros + length (drop kept whole) + length fraction))
          nothing')
      front_lem kept sum (inr none) =
          ap₂ (λ a b. a * b)
          (one_lem (digits_value 10 (take kept whole)) (digits_value 10 (take kept whole ++ []))
          (ap (digits_value 10) (append-nil (take kept whole))))
          (ap (λ n. 10 ^ n) (count_all kept none))

  -- digits of the fraction go before the point
  pub times_ten_is : MovesBy (length fraction) power moved zeros
      → times_ten s whole fraction power
      ≡ both s (digits_value 10 (whole ++ take moved fraction) * 10 ^ zeros)
      (digits_value 10 ([] ++ drop moved fraction))
      (10 ^ (0 + 0 + length (drop moved fraction))) (power_pos _)
  times_ten_is h =
      let a : ℕ = digits_value 10 (whole ++ take moved fraction) in
      let f : ℕ = digits_value 10 (drop moved fraction) in
      let left : ℕ = length (drop moved fraction) in
      let count : left ≡ length fraction - moved = length-drop moved fraction in
      let value : digits_value 10 (whole ++ fraction) ≡ a * 10 ^ left + f =
      ap (λ t. digits_value 10 (whole ++ t)) (sym (take-append-drop moved fraction))
      ∙ ap (digits_value 10) (sym (append_assoc whole (take moved fraction) (drop moved fraction)))
      ∙ value-append (whole ++ take moved fraction) (drop moved fraction) in
      same_over s (digits_value 10 (whole ++ fraction) * 10 ^ power) (10 ^ length fraction)
      (a * 10 ^ zeros * 10 ^ (0 + 0 + left) + f) (10 ^ (0 + 0 + left))
      (power_pos _) (power_pos _)
      (cross_lem a f left value count nothing_lem h.power_is h.within h.past_all)
    where
      nothing_lem : moved ≡ length fraction → digits_value 10 (drop moved fraction) ≡ 0
      nothing_lem all = ap (digits_value 10) (drop_all moved fraction (omega (arith, all)))

      few_lem : (v a f l l' p r z : ℕ) → v ≡ a * l + f → l' ≡ l → r ≡ p * l → z ≡ 1
          → v * p * l' ≡ (a * z * l' + f) * r
      few_lem v a f l l' p r z e1 e2 e3 e4 = rw (e1, e2, e3, e4) (omega arith)

      many_lem : (v a f l l' p r z : ℕ) → v ≡ a * l + f → l ≡ 1 → l' ≡ 1 → f ≡ 0 → p ≡ r * z
          → v * p * l' ≡ (a * z * l' + f) * r
      many_lem v a f l l' p r z e1 e2 e3 e4 e5 = rw (e1, e2, e3, e4, e5) (omega arith)

      cross_lem : (a f left : ℕ) → digits_value 10 (whole ++ fraction) ≡ a * 10 ^ left + f
          → left ≡ length fraction - moved
          → (moved ≡ length fraction → f ≡ 0)
          → moved + zeros ≡ power → moved ≤ length fraction
          → (moved ≡ length fraction) ⊎ (zeros ≡ 0)
          → digits_value 10 (whole ++ fraction) * 10 ^ power * 10 ^ (0 + 0 + left)
          ≡ (a * 10 ^ zeros * 10 ^ (0 + 0 + left) + f) * 10 ^ length fraction
      cross_lem a f left value count nothing sum within (inl all) =
          let none : left ≡ 0 = omega (arith, count, all) in
          let none' : 0 + 0 + left ≡ 0 = omega (arith, none) in
          let powers : power ≡ length fraction + zeros = omega (arith, sum, all) in
          many_lem (digits_value 10 (whole ++ fraction)) a f (10 ^ left) (10 ^ (0 + 0 + left))
          (10 ^ power) (10 ^ length fraction) (10 ^ zeros)
          value (ap (λ n. 10 ^ n) none) (ap (λ n. 10 ^ n) none') (nothing all)
          (ap (λ n. 10 ^ n) powers ∙ pow-add 10 (length fraction) zeros)
      cross_lem a f left value count nothing sum within (inr none) =
          let same : 0 + 0 + left ≡ left = omega arith in
          let places : length fraction ≡ power + left = omega (arith, sum, none, count, within) in
          few_lem (digits_value 10 (whole ++ fraction)) a f (10 ^ left) (10 ^ (0 + 0 + left))
          (10 ^ power) (10 ^ length fraction) (10 ^ zeros)
          value (ap (λ n. 10 ^ n) same)
          (ap (λ n. 10 ^ n) places ∙ pow-add 10 power left)
          (ap (λ n. 10 ^ n) none)

-- ---- too large and too small

module _ (s : Bool) (whole fraction : List ℕ) (power : ℕ)
    (some : 0 < digits_value 10 (whole ++ fraction)) where
  pub times_ten_large : length fraction + 39 ≤ power → ¬ (Fits (times_ten s whole fraction power))
  times_ten_large h =
      let reach : 39 + length fraction ≤ power = omega (arith, h) in
      let grown : 10 ^ (39 + length fraction) ≤ 10 ^ power = pow-le-pow_right ten reach in
      unfit_num (times_ten s whole fraction power)
      (past_lem _ (num_above s (digits_value 10 (whole ++ fraction) * 10 ^ power)
      (10 ^ length fraction) (10 ^ 39) (power_pos _)
      (large_lem (digits_value 10 (whole ++ fraction)) (10 ^ power) (10 ^ (39 + length fraction))
      (10 ^ 39 * 10 ^ length fraction) some grown (pow-add 10 39 (length fraction)))))
    where
      large_lem : (d p g k : ℕ) → 0 < d → g ≤ p → g ≡ k → k ≤ d * p
      large_lem d p g k h le e =
          let one : 1 ≤ d = omega arith in
          omega (arith, mul-le-mul_right p one, le, e)

  pub over_ten_small : AllDigits 10 (whole ++ fraction) → length whole + 39 ≤ power
      → ¬ (Fits (over_ten s whole fraction power))
  over_ten_small digits h =
      let short : digits_value 10 (whole ++ fraction) < 10 ^ (length whole + length fraction) =
      subst (λ n. digits_value 10 (whole ++ fraction) < 10 ^ n) (length-append whole fraction)
      (digits_value-lt 10 (whole ++ fraction) digits) in
      let reach : length whole + length fraction + 39 ≤ length fraction + power =
      omega (arith, h) in
      let grown : 10 ^ (length whole + length fraction + 39) ≤ 10 ^ (length fraction + power) =
      pow-le-pow_right ten reach in
      unfit_den (over_ten s whole fraction power)
      (past_lem _ (den_above s (digits_value 10 (whole ++ fraction))
      (10 ^ (length fraction + power)) (10 ^ 39) some (power_pos _)
      (small_lem (digits_value 10 (whole ++ fraction)) (10 ^ (length whole + length fraction))
      (10 ^ (length whole + length fraction + 39)) (10 ^ (length fraction + power)) (10 ^ 39)
      short grown (pow-add 10 (length whole + length fraction) 39))))
    where
      small_lem : (d p g t k : ℕ) → d < p → g ≤ t → g ≡ p * k → d * k ≤ t
      small_lem d p g t k h le e =
          let under : d ≤ p = omega arith in
          omega (arith, mul-le-mul_right k under, le, e)
