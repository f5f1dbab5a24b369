-- The number that digits write, in parts.
use Rattle.std.proofs.Common.{◌≡◌, ℕ, zero, suc, ◌+◌, ◌-◌, ◌*◌, ◌^◌, ◌<◌, ◌≤◌, Bool, true, false, ◌&&◌, ◌==◌, List, [], ◌∷◌, ◌++◌, length, take, drop, get_or, replicate, refl, sym, ◌∙◌, ap, arith, pow-suc, mul-pos}
use Rattle.std.proofs.Math.Nat.{one-le-pow}
use Rattle.std.proofs.lemmas.Bool.{eqb-true, eqb-false}
use Rattle.std.proofs.lemmas.Bool.Decides.{nat_tests}
use Rattle.std.proofs.lemmas.List.{drop_more}
use Rattle.std.specs.Char.{digit_value}
use Rattle.std.specs.Str.Parse.{AllDigits, digits_value, digits_value_after}
use Rattle.mof_text.specs.Decimal.{are_zeros}

step_lem : (n d t s x y v : ℕ) → s ≡ t * 10 → x ≡ (n * 10 + d) * t + v → y ≡ (0 * 10 + d) * t + v
    → x ≡ n * s + y
step_lem n d t s x y v e h k = rw e (omega (arith, h, k))

pub after_is : (n : ℕ) (ds : List ℕ) → digits_value_after 10 n ds
    ≡ n * 10 ^ length ds + digits_value 10 ds
after_is n [] = omega arith
after_is n (c ∷ cs) =
    step_lem n (digit_value c) (10 ^ length cs) (10 ^ suc (length cs)) _ _ (digits_value 10 cs)
    (pow-suc 10 (length cs)) (after_is (n * 10 + digit_value c) cs)
    (after_is (0 * 10 + digit_value c) cs)

pub after-append : (n : ℕ) (xs ys : List ℕ) → digits_value_after 10 n (xs ++ ys)
    ≡ digits_value_after 10 (digits_value_after 10 n xs) ys
after-append n [] ys = refl
after-append n (c ∷ cs) ys = after-append (n * 10 + digit_value c) cs ys

pub value-append : (xs ys : List ℕ) → digits_value 10 (xs ++ ys)
    ≡ digits_value 10 xs * 10 ^ length ys + digits_value 10 ys
value-append xs ys = after-append 0 xs ys ∙ after_is (digits_value 10 xs) ys

pub value-cons : (c : ℕ) (cs : List ℕ) → digits_value 10 (c ∷ cs)
    ≡ digit_value c * 10 ^ length cs + digits_value 10 cs
value-cons c cs =
    first_lem (digit_value c) (10 ^ length cs) _ (digits_value 10 cs)
    (after_is (0 * 10 + digit_value c) cs)
  where
    first_lem : (d t x v : ℕ) → x ≡ (0 * 10 + d) * t + v → x ≡ d * t + v
    first_lem d t x v e = omega (arith, e)

pub value_zeros : (n : ℕ) → digits_value 10 (replicate n 48) ≡ 0
value_zeros zero = refl
value_zeros (suc n) = value_zeros n

pub AllDigits-zeros : (n : ℕ) → AllDigits 10 (replicate n 48)
AllDigits-zeros zero = tt
AllDigits-zeros (suc n) = (omega arith, AllDigits-zeros n)

pub AllDigits-take : (n : ℕ) (ds : List ℕ) → AllDigits 10 ds → AllDigits 10 (take n ds)
AllDigits-take zero ds h = tt
AllDigits-take (suc n) [] h = tt
AllDigits-take (suc n) (c ∷ cs) h = (h.0, AllDigits-take n cs h.1)

pub AllDigits-drop : (n : ℕ) (ds : List ℕ) → AllDigits 10 ds → AllDigits 10 (drop n ds)
AllDigits-drop zero ds h = h
AllDigits-drop (suc n) [] h = tt
AllDigits-drop (suc n) (c ∷ cs) h = AllDigits-drop n cs h.1

-- a digit is its byte less 48
pub digit_is : (c : ℕ) → digit_value c < 10 → (48 ≤ c) × (digit_value c ≡ c - 48)
digit_is c h = (grind (arith, nat_tests), grind (arith, nat_tests))

pub digit_at : (ds : List ℕ) (i : ℕ) → AllDigits 10 ds → i < length ds
    → digit_value (get_or ds i 0) < 10
digit_at [] i h k = absurd (omega arith)
digit_at (c ∷ cs) zero h k = h.0
digit_at (c ∷ cs) (suc i) h k = digit_at cs i h.1 (omega arith)

pub grows : (n : ℕ) (ds : List ℕ) → n ≤ digits_value_after 10 n ds
grows n [] = omega arith
grows n (c ∷ cs) = omega (arith, grows (n * 10 + digit_value c) cs)

-- ---- a number that is read on

module _ (ds : List ℕ) (start value i : ℕ) (digits : AllDigits 10 ds) (inside : i < length ds)
    (same : digits_value_after 10 value (drop i ds) ≡ digits_value_after 10 start ds) where
  next_lem : digits_value_after 10 value (drop i ds)
      ≡ digits_value_after 10 (value * 10 + (get_or ds i 0 - 48)) (drop (i + 1) ds)
  next_lem =
      ap (digits_value_after 10 value) (drop_more ds i 0 inside)
      ∙ ap (λ d. digits_value_after 10 (value * 10 + d) (drop (i + 1) ds))
      (digit_is (get_or ds i 0) (digit_at ds i digits inside)).1

  pub read_on : digits_value_after 10 (value * 10 + (get_or ds i 0 - 48)) (drop (i + 1) ds)
      ≡ digits_value_after 10 start ds
  read_on = sym next_lem ∙ same

  pub read_past : 2 ^ 127 ≤ value * 10 + (get_or ds i 0 - 48)
      → ¬ (digits_value_after 10 start ds < 2 ^ 127)
  read_past h small =
      omega (arith, h, small, read_on, grows (value * 10 + (get_or ds i 0 - 48)) (drop (i + 1) ds))

pub digit_low : (ds : List ℕ) (i : ℕ) → AllDigits 10 ds → i < length ds → 48 ≤ get_or ds i 0
digit_low ds i h k = (digit_is (get_or ds i 0) (digit_at ds i h k)).0

-- ---- zeros

zeros_lem : (b : Bool) (c : ℕ) (cs : List ℕ) → (c == 48) ≡ b → (b && are_zeros cs) ≡ true
    → (are_zeros cs ≡ true → digits_value 10 cs ≡ 0) → digits_value 10 (c ∷ cs) ≡ 0
zeros_lem true c cs is rest next =
    ap (λ n. digits_value_after 10 (0 * 10 + digit_value n) cs) (eqb-true c 48 is) ∙ next rest
zeros_lem false c cs is rest next = cc

pub zeros_value : (ds : List ℕ) → are_zeros ds ≡ true → digits_value 10 ds ≡ 0
zeros_value [] e = refl
zeros_value (c ∷ cs) e = zeros_lem (c == 48) c cs refl e (zeros_value cs)

some_lem : (b : Bool) (c : ℕ) (cs : List ℕ) → digit_value c < 10 → (c == 48) ≡ b
    → (b && are_zeros cs) ≡ false → (are_zeros cs ≡ false → 0 < digits_value 10 cs)
    → 0 < digits_value 10 (c ∷ cs)
some_lem true c cs h is rest next =
    left_lem (digit_value c * 10 ^ length cs) (digits_value 10 cs) _ (next rest) (value-cons c cs)
  where
    left_lem : (a b x : ℕ) → 0 < b → x ≡ a + b → 0 < x
    left_lem a b x h e = omega (arith, h, e)
some_lem false c cs h is rest next =
    let low : 48 ≤ c = (digit_is c h).0 in
    let value : digit_value c ≡ c - 48 = (digit_is c h).1 in
    let other : ¬ (c ≡ 48) = eqb-false c 48 is in
    first_lem (digit_value c) (10 ^ length cs) (digits_value 10 cs) _
    (above_lem c (digit_value c) low other value) (one-le-pow (length cs) 10 (omega arith))
    (value-cons c cs)
  where
    above_lem : (c d : ℕ) → 48 ≤ c → ¬ (c ≡ 48) → d ≡ c - 48 → 0 < d
    above_lem c d h k e = omega (arith, h, k, e)

    first_lem : (d t v x : ℕ) → 0 < d → 0 < t → x ≡ d * t + v → 0 < x
    first_lem d t v x h k e = omega (arith, mul-pos h k, e)

pub some_value : (ds : List ℕ) → AllDigits 10 ds → are_zeros ds ≡ false → 0 < digits_value 10 ds
some_value [] h e = cc
some_value (c ∷ cs) h e = some_lem (c == 48) c cs h.0 refl e (some_value cs h.1)
