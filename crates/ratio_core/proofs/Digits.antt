-- The part of a literal, read digit by digit.
use Rattle.std.proofs.Common.{◌≡◌, ℕ, suc, ◌*◌, ◌+◌, ◌-◌, ◌^◌, ◌<◌, ◌≤◌, Bool, true, false, cond, ◌&&◌, List, [], ◌∷◌, length, drop, get_or, Option, Some, None, refl, sym, ◌∙◌, ap, arith, lt-ltb, le-ltb, ltb-true, ltb-false, nat_lt, drop-cons, drop_of_length-le, ◌⊎◌, inl, inr}
use Rattle.std.proofs.lemmas.Bool.Decides.{nat_tests}
use Rattle.std.proofs.lemmas.Bool.{and_right}
use Rattle.std.specs.Char.{digit_value, is_ascii_digit}
use Rattle.std.specs.List.{list_all}
use Rattle.std.specs.Str.Parse.{digits_value_after}
use Rattle.ratio_core.specs.Text.{is_part, part_of}

-- what the digits give after those of the value
abbrev pub part_after : ℕ → List ℕ → Option ℕ
part_after value [] = Some value
part_after value (c ∷ cs) =
    cond (is_ascii_digit c && nat_lt (value * 10 + (c - 48)) (2 ^ 127))
    (part_after (value * 10 + (c - 48)) cs) None

-- the same in the words of the definition
abbrev written : ℕ → List ℕ → Option ℕ
written value ds =
    cond (list_all is_ascii_digit ds && nat_lt (digits_value_after 10 value ds) (2 ^ 127))
    (Some (digits_value_after 10 value ds)) None

digit_is : (c : ℕ) → is_ascii_digit c ≡ true → digit_value c ≡ c - 48
digit_is c e = grind (arith, nat_tests)

grows : (value : ℕ) (ds : List ℕ) → value ≤ digits_value_after 10 value ds
grows value [] = omega arith
grows value (c ∷ cs) = omega (arith, grows (value * 10 + digit_value c) cs)

past : (value : ℕ) (ds : List ℕ) → 2 ^ 127 ≤ value → written value ds ≡ None
past value ds h =
    let below : 2 ^ 127 ≤ digits_value_after 10 value ds = omega (arith, grows value ds) in
    ap (λ t. cond t (Some (digits_value_after 10 value ds)) None)
    (and_right (list_all is_ascii_digit ds) _ (le-ltb _ _ below))

step_lem : (value c : ℕ) (cs : List ℕ) (b t : Bool)
    → ((v : ℕ) → v < 2 ^ 127 → part_after v cs ≡ written v cs) → is_ascii_digit c ≡ b
    → nat_lt (value * 10 + (c - 48)) (2 ^ 127) ≡ t
    → part_after value (c ∷ cs) ≡ written value (c ∷ cs)
step_lem value c cs false t rest e f = rw (e) refl
step_lem value c cs true false rest e f =
    rw (e, f) (sym (rw (digit_is c e) (past (value * 10 + (c - 48)) cs (ltb-false _ _ f))))
step_lem value c cs true true rest e f =
    rw (e, f) (rw (digit_is c e) (rest (value * 10 + (c - 48)) (ltb-true _ _ f)))

pub part_after_is : (value : ℕ) (ds : List ℕ) → value < 2 ^ 127
    → part_after value ds ≡ written value ds
part_after_is value [] h = sym (ap (λ t. cond t (Some value) None) (lt-ltb value (2 ^ 127) h))
part_after_is value (c ∷ cs) h = step_lem value c cs _ _ (λ v k. part_after_is v cs k) refl refl

-- a text that is not empty
pub part_of_after : (ds : List ℕ) → 0 < length ds → part_of ds ≡ part_after 0 ds
unfolding part_of is_part
part_of_after ds h = rw (lt-ltb 0 (length ds) h) (sym (part_after_is 0 ds (omega arith)))

pub part_of_empty : (ds : List ℕ) → length ds ≡ 0 → part_of ds ≡ None
unfolding part_of is_part
part_of_empty [] h = refl
part_of_empty (c ∷ cs) h = absurd (omega arith)

-- ---- the loop's returns

refused_lem : (value c : ℕ) (cs : List ℕ)
    → (is_ascii_digit c ≡ false) ⊎ (2 ^ 127 ≤ value * 10 + (c - 48))
    → part_after value (c ∷ cs) ≡ None
refused_lem value c cs (inl e) = rw (e) refl
refused_lem value c cs (inr h) =
    ap (λ t. cond t (part_after (value * 10 + (c - 48)) cs) None) (and_right (is_ascii_digit c) _
    (le-ltb _ _ h))

module _ (text : List ℕ) (value i : ℕ) (some : ¬ (length text ≡ 0))
    (same : part_after value (drop i text) ≡ part_after 0 text) where
  whole_lem : part_after value (drop i text) ≡ part_of text
  whole_lem = same ∙ sym (part_of_after text (omega arith))

  pub part_refused : i < length text
      → (is_ascii_digit (get_or text i 0) ≡ false) ⊎ (2 ^ 127 ≤ value * 10 + (get_or text i 0 - 48))
      → None ≡ part_of text
  part_refused h k =
      sym (refused_lem value (get_or text i 0) (drop (suc i) text) k)
      ∙ sym (ap (part_after value) (drop-cons text i 0 h)) ∙ whole_lem

  pub part_read : length text ≤ i → Some value ≡ part_of text
  part_read h = sym (ap (part_after value) (drop_of_length-le text h)) ∙ whole_lem
