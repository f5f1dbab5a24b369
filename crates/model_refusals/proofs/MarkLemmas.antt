-- Marks as bits of words.
use Rattle.std.specs.Prelude.{◌≡◌, ◌≢◌, ℕ, ◌*◌, ◌/◌, ◌%◌, ◌^◌, ◌<◌, Bool, true, false, ◌||◌, ◌&&◌, ◌==◌, bit_or, List, length, refl}
use Rattle.std.proofs.Common.{arith, eq-eqb, get_or, get_or-set_other, get_or-set_same, inl, inr, ne_eqb, set, sym, ap, w64, ◌∙◌}
use Rattle.std.proofs.lemmas.Bool.{cases_eq, false≢true, or_right}
use Rattle.std.proofs.lemmas.Nat.Bits.{bit_at_set_other, bit_at_set_same}
use Rattle.std.specs.Int.{bit_at}
use Rattle.model_refusals.specs.declared.marks.Marks.{Marks}
use Rattle.model_refusals.specs.Marked.{has_bit}

abbrev bit_in : List ℕ → ℕ → Bool
bit_in words n = bit_at (get_or words (n / 64) 0) (n % 64) == 1

-- `words[k / 64] |= 1 << (k % 64)`
module _ (words : List ℕ) (k n : ℕ) (within : k / 64 < length words) where
  abbrev word : ℕ
  word = bit_or (get_or words (k / 64) 0) (1 * 2 ^ (k % 64) % 2 ^ 64)

  others_stay : n ≢ k → bit_in (set words (k / 64) word) n ≡ bit_in words n
  others_stay other =
      elim (cases_eq (n / 64) (k / 64)) [
        | inl row ↦
            ap (λ w. bit_at (get_or (set words (k / 64) word) w 0) (n % 64) == 1) row
            ∙ (ap (λ w. bit_at w (n % 64) == 1) (get_or-set_same words (k / 64) word 0 within)
            ∙ (ap (λ b. b == 1) (bit_at_set_other w64 (get_or words (k / 64) 0) (k % 64)
            (omega arith) (n % 64) (omega arith))
            ∙ ap (λ w. bit_at (get_or words w 0) (n % 64) == 1) (sym row)))
        | inr apart ↦ ap (λ w. bit_at w (n % 64) == 1) (get_or-set_other words (k / 64)
            (n / 64) word 0 apart)
      ]

  pub bit_in-set : bit_in (set words (k / 64) word) n ≡ ((n == k) || bit_in words n)
  bit_in-set =
      elim (cases_eq n k) [
        | inl same ↦
            ap (bit_in (set words (k / 64) word)) same
            ∙ (ap (λ w. bit_at w (k % 64) == 1) (get_or-set_same words (k / 64) word 0 within)
            ∙ (eq-eqb _ 1 (bit_at_set_same w64 (get_or words (k / 64) 0) (k % 64) (omega arith))
            ∙ sym (ap (λ b. b || bit_in words n) (eq-eqb n k same))))
        | inr other ↦ others_stay other ∙ sym (ap (λ b. b || bit_in words n) (ne_eqb n k other))
      ]

-- ---- three bits for a hash

module _ (old one two three : Marks) (a b c : ℕ)
    (first : (n : ℕ) → has_bit one n ≡ ((n == a) || has_bit old n))
    (second : (n : ℕ) → has_bit two n ≡ ((n == b) || has_bit one n))
    (third : (n : ℕ) → has_bit three n ≡ ((n == c) || has_bit two n)) where
  all_true : (p q r : Bool) → p ≡ true → q ≡ true → r ≡ true → (p && (q && r)) ≡ true
  all_true p q r d e f = cc

  from_one : (n : ℕ) → has_bit one n ≡ true → has_bit three n ≡ true
  from_one n e =
      third n ∙ or_right (n == c) (has_bit two n) (second n ∙ or_right (n == b) (has_bit one n) e)

  -- bits that were set stay
  from_old : (n : ℕ) → has_bit old n ≡ true → has_bit three n ≡ true
  from_old n e = from_one n (first n ∙ or_right (n == a) (has_bit old n) e)

  pub three_set : (has_bit three a && (has_bit three b && has_bit three c)) ≡ true
  three_set =
      all_true (has_bit three a) (has_bit three b) (has_bit three c)
      (from_one a (first a ∙ itself a (has_bit old a)))
      (third b ∙ or_right (b == c) (has_bit two b) (second b ∙ itself b (has_bit one b)))
      (third c ∙ itself c (has_bit two c))
    where
      itself : (n : ℕ) (y : Bool) → ((n == n) || y) ≡ true
      itself n y = ap (λ x. x || y) (eq-eqb n n refl)

  pub three_stay : (x y z : ℕ) → (has_bit old x && (has_bit old y && has_bit old z)) ≡ true
      → (has_bit three x && (has_bit three y && has_bit three z)) ≡ true
  three_stay x y z e =
      let parts = taken_apart (has_bit old x) (has_bit old y) (has_bit old z) e in
      all_true (has_bit three x) (has_bit three y) (has_bit three z) (from_old x parts.0)
      (from_old y parts.1) (from_old z parts.2)
    where
      taken_apart : (p q r : Bool) → (p && (q && r)) ≡ true → (p ≡ true) × (q ≡ true) × (r ≡ true)
      taken_apart true true r e = (refl, refl, e)
      taken_apart true false r e = absurd (false≢true e)
      taken_apart false q r e = absurd (false≢true e)
