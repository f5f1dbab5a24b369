-- A number is below or above 0 exactly where its numerator is.
use Rattle.std.specs.Prelude.{◌≡◌, ℤ, pos, ◌≤ℤ◌, ◌<ℤ◌, int_lt, Bool, true, false, refl}
use Rattle.std.proofs.Common.{sym, ◌∙◌, arith, true≢false}
use Rattle.std.proofs.lemmas.Int.{ints}
use Rattle.ratio_core.specs.Rational.{Rational, zero_ℚ}
use Rattle.rational_laws.specs.Order.{above_num, nonneg_num, not_‹ℚ_from_≤ℚ}
use Rattle.rational_laws.specs.Tests.{ge_from_failed, lt_from_test, test_from_lt}
use Rattle.simplex_form.specs.Turns.{is_below}

passed : (a b : ℤ) → int_lt a b ≡ true → a <ℤ b
passed a b e = omega (arith, ints)

failed : (a b : ℤ) → int_lt a b ≡ false → b ≤ℤ a
failed a b e = omega (arith, ints)

apart : (a b : ℤ) → a <ℤ b → b ≤ℤ a → ⊥
apart a b h k = omega (arith, ints)

pub below_by_num : (q : Rational) → int_lt q.num (pos 0) ≡ is_below q zero_ℚ
below_by_num q = by_tests (int_lt q.num (pos 0)) (is_below q zero_ℚ) refl refl
  where
    by_tests : (s t : Bool) → int_lt q.num (pos 0) ≡ s → is_below q zero_ℚ ≡ t → s ≡ t
    by_tests true true e f = refl
    by_tests false false e f = refl
    by_tests true false e f =
        absurd (apart q.num (pos 0) (passed q.num (pos 0) e)
        ((nonneg_num q).0 (ge_from_failed q zero_ℚ f)))
    by_tests false true e f =
        absurd (not_‹ℚ_from_≤ℚ zero_ℚ q ((nonneg_num q).1 (failed q.num (pos 0) e))
        (lt_from_test q zero_ℚ f))

pub above_by_num : (q : Rational) → int_lt (pos 0) q.num ≡ is_below zero_ℚ q
above_by_num q = by_tests (int_lt (pos 0) q.num) (is_below zero_ℚ q) refl refl
  where
    by_tests : (s t : Bool) → int_lt (pos 0) q.num ≡ s → is_below zero_ℚ q ≡ t → s ≡ t
    by_tests true true e f = refl
    by_tests false false e f = refl
    by_tests true false e f =
        absurd (true≢false (sym (test_from_lt zero_ℚ q ((above_num q).1 (passed (pos 0) q.num e)))
        ∙ f))
    by_tests false true e f =
        absurd (apart (pos 0) q.num ((above_num q).0 (lt_from_test zero_ℚ q f))
        (failed (pos 0) q.num e))
