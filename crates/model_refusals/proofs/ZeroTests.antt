-- Tests of numbers, and what they count.
use Rattle.std.specs.Prelude.{◌≡◌, ℕ, ◌+◌, ◌<◌, Bool, true, false, not, cond, List, IsTrue, ◌↔◌, take, length, count_by, refl}
use Rattle.std.proofs.Common.{get_or, sym, ap, inl, inr, ◌∙◌}
use Rattle.std.proofs.lemmas.Bool.{cases_Bool}
use Rattle.std.proofs.lemmas.List.Sums.{sum_by_more}
use Rattle.ratio_core.specs.Rational.{Rational, rational_eq, zero_ℚ}
use Rattle.ratio_core.specs.RationalLaws.{eq_rational_eq, rational_eq-true}
use mir.Val.{bool_byte}

-- a test for 0
pub zero_test : (b : Bool) (q : Rational) → IsTrue b ↔ (q ≡ zero_ℚ) → b ≡ rational_eq q zero_ℚ
zero_test true q h = sym (eq_rational_eq q zero_ℚ (h.0 refl))
zero_test false q h =
    elim (cases_Bool (rational_eq q zero_ℚ)) [
      | inl e ↦ h.1 (rational_eq-true q zero_ℚ e) ∙ sym e
      | inr e ↦ sym e
    ]

-- a test as a number
pub byte_is : (b c : Bool) (n : ℕ) → n ≡ bool_byte b → b ≡ c → n ≡ cond c 1 0
byte_is b c n e is = e ∙ (as_cond b ∙ ap (λ x. cond x 1 0) is)
  where
    as_cond : (x : Bool) → bool_byte x ≡ cond x 1 0
    as_cond true = refl
    as_cond false = refl

pub not_byte_is : (b c : Bool) (n : ℕ) → n ≡ bool_byte (not b) → b ≡ c → n ≡ cond c 0 1
not_byte_is b c n e is = e ∙ (as_cond b ∙ ap (λ x. cond x 0 1) is)
  where
    as_cond : (x : Bool) → bool_byte (not x) ≡ cond x 0 1
    as_cond true = refl
    as_cond false = refl

-- one more item is counted, or isn't
module _ {X : Type 0} (test : X → Bool) (xs : List X) (i : ℕ) (x : X) (lt : i < length xs)
    (is : x ≡ get_or xs i x) (n : ℕ) (so_far : n ≡ count_by test (take i xs)) where
  pub counted_more : (b : Bool) → test x ≡ b → n + cond b 1 0 ≡ count_by test (take (i + 1) xs)
  counted_more b e =
      ap (λ b. n + cond b 1 0) (sym e ∙ ap test is)
      ∙ (ap (λ k. k + cond (test (get_or xs i x)) 1 0) so_far
      ∙ sym (sum_by_more (λ x. cond (test x) 1 0) xs i x lt))
