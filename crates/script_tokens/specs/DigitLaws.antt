-- Decimal digits are ASCII, and what `parse` makes of them.
use Rattle.std.proofs.Common.{◌≡◌, ℕ, zero, suc, ◌<◌, ◌^◌, true, cond, Some, None, List, [], ◌∷◌, length, sym, ap, ◌∙◌, arith, rules, inl, inr, lt-ltb, le-ltb, lit<}
use Rattle.std.proofs.lemmas.Bool.{and_parts, cases_lt}
use Rattle.std.proofs.lemmas.Bool.Decides.{nat_tests}
use Rattle.std.proofs.lemmas.Str.{IsUtf8-from_ascii}
use Rattle.std.proofs.lemmas.Str.Parse.{IsNumeralModel, numerals_by_value, parse_digits}
use Rattle.std.specs.Char.{is_ascii_digit}
use Rattle.std.specs.List.{list_all}
use Rattle.std.specs.Prelude.{Result, Ok, Err, nat_lt}
use Rattle.std.specs.Result.{OkIff, result_ok}
use Rattle.std.specs.Str.{IsUtf8, IsAscii}
use Rattle.std.specs.Str.Parse.{ParsesUnsigned, digits_value}
use Rattle.script_tokens.specs.Number.{in_bits, is_digits}

all_digits : (ds : List ℕ) → is_digits ds ≡ true → list_all is_ascii_digit ds ≡ true
all_digits ds h = (and_parts (nat_lt 0 (length ds)) (list_all is_ascii_digit ds) h).1

some_digit : (ds : List ℕ) → is_digits ds ≡ true → 0 < length ds
some_digit ds h = grind (arith, nat_tests)

IsAscii-digits : (ds : List ℕ) → list_all is_ascii_digit ds ≡ true → IsAscii ds
IsAscii-digits [] h i = lit< tt
IsAscii-digits (c ∷ cs) h zero =
    let digit : is_ascii_digit c ≡ true =
    (and_parts (is_ascii_digit c) (list_all is_ascii_digit cs) h).0 in
    grind (arith, nat_tests)
IsAscii-digits (c ∷ cs) h (suc i) =
    IsAscii-digits cs ((and_parts (is_ascii_digit c) (list_all is_ascii_digit cs) h).1) i

pub IsUtf8-digits : (ds : List ℕ) → is_digits ds ≡ true → IsUtf8 ds
IsUtf8-digits ds h = IsUtf8-from_ascii ds (IsAscii-digits ds (all_digits ds h))

own : IsNumeralModel (λ ds. list_all is_ascii_digit ds ≡ true) (digits_value 10)
own = numerals_by_value (λ ds. list_all is_ascii_digit ds ≡ true) (search rules)

read : {E : Type 0} (w n : ℕ) (r : Result ℕ E) (P : Type 0) → P → OkIff r (P × (n < 2 ^ w)) n
    → result_ok r ≡ in_bits w n
read w n (Ok x) P p h = ap Some h.1 ∙ sym (ap (λ b. cond b (Some n) None) (lt-ltb n (2 ^ w) h.0.1))
read w n (Err e) P p h =
    elim (cases_lt n (2 ^ w)) [
      | inl lt ↦ absurd (h (p, lt))
      | inr ge ↦ sym (ap (λ b. cond b (Some n) None) (le-ltb n (2 ^ w) ge))
    ]

pub parsed : {E : Type 0} (w : ℕ) (ds : List ℕ) (r : Result ℕ E) → is_digits ds ≡ true
    → ParsesUnsigned w 10 ds r → result_ok r ≡ in_bits w (digits_value 10 ds)
parsed w ds r h parses =
    read w (digits_value 10 ds) r (0 < length ds) (some_digit ds h)
    (regrouped r (parse_digits own w ds r parses (all_digits ds h)))
  where
    regrouped : {E : Type 0} (r : Result ℕ E)
        → OkIff r ((0 < length ds) × (digits_value 10 ds < 2 ^ w)) (digits_value 10 ds)
        → OkIff r ((0 < length ds) × (digits_value 10 ds < 2 ^ w)) (digits_value 10 ds)
    regrouped r h = h
