-- What the code's `<`, `<=`, `>`, `>=` and `==` at fractions say of the numbers.
-- A function that compares fractions names the set once:
--     #[tactic(auto, using(rational_laws::specs::Tests::rational_tests))]
use Rattle.std.specs.Prelude.{◌≡◌, ◌≢◌, Bool, true, false, not, Decides, refl}
use Rattle.std.proofs.Common.{sym, ◌∙◌, ap, true≢false, is_ge, is_gt, is_le, is_lt, Ordering, Less, Equal, Greater}
use Rattle.std.proofs.lemmas.Bool.{true_from_ne_false}
use Rattle.std.specs.Ordering.{MatchOrdering}
use Rattle.ratio_core.specs.Rational.{Rational, rational_cmp, rational_eq, zero_ℚ, ◌≤ℚ◌, ◌‹ℚ◌}
use Rattle.ratio_core.specs.RationalLaws.{eq_rational_eq, rational_eq-false, rational_eq-true, rational_ranks}
use Rattle.rational_laws.specs.Order.{not_‹ℚ_from_≤ℚ, ≤ℚ_from_≡, ≤ℚ_from_‹ℚ}

module _ (p q : Rational) where
  is_le_lem : (r : Ordering) → MatchOrdering r (p ‹ℚ q) (p ≡ q) (q ‹ℚ p)
      → Decides (is_le r) (p ≤ℚ q)
  is_le_lem Less h = (λ e. ≤ℚ_from_‹ℚ p q h, λ e. refl)
  is_le_lem Equal h = (λ e. ≤ℚ_from_≡ p q h, λ e. refl)
  is_le_lem Greater h = (λ e. absurd (true≢false (sym e)), λ k. absurd (not_‹ℚ_from_≤ℚ p q k h))

  is_lt_lem : (r : Ordering) → MatchOrdering r (p ‹ℚ q) (p ≡ q) (q ‹ℚ p)
      → Decides (is_lt r) (p ‹ℚ q)
  is_lt_lem Less h = (λ e. h, λ e. refl)
  is_lt_lem Equal h =
      (λ e. absurd (true≢false (sym e)), λ k. absurd (not_‹ℚ_from_≤ℚ q p (≤ℚ_from_≡ q p (sym h)) k))
  is_lt_lem Greater h =
      (λ e. absurd (true≢false (sym e)), λ k. absurd (not_‹ℚ_from_≤ℚ q p (≤ℚ_from_‹ℚ q p h) k))

  is_gt_lem : (r : Ordering) → MatchOrdering r (p ‹ℚ q) (p ≡ q) (q ‹ℚ p)
      → Decides (is_gt r) (q ‹ℚ p)
  is_gt_lem Less h =
      (λ e. absurd (true≢false (sym e)), λ k. absurd (not_‹ℚ_from_≤ℚ p q (≤ℚ_from_‹ℚ p q h) k))
  is_gt_lem Equal h =
      (λ e. absurd (true≢false (sym e)), λ k. absurd (not_‹ℚ_from_≤ℚ p q (≤ℚ_from_≡ p q h) k))
  is_gt_lem Greater h = (λ e. h, λ e. refl)

  is_ge_lem : (r : Ordering) → MatchOrdering r (p ‹ℚ q) (p ≡ q) (q ‹ℚ p)
      → Decides (is_ge r) (q ≤ℚ p)
  is_ge_lem Less h = (λ e. absurd (true≢false (sym e)), λ k. absurd (not_‹ℚ_from_≤ℚ q p k h))
  is_ge_lem Equal h = (λ e. ≤ℚ_from_≡ q p (sym h), λ e. refl)
  is_ge_lem Greater h = (λ e. ≤ℚ_from_‹ℚ q p h, λ e. refl)

  pub is_le_Decides : Decides (is_le (rational_cmp p q)) (p ≤ℚ q)
  is_le_Decides = is_le_lem (rational_cmp p q) (rational_ranks p q)

  pub is_lt_Decides : Decides (is_lt (rational_cmp p q)) (p ‹ℚ q)
  is_lt_Decides = is_lt_lem (rational_cmp p q) (rational_ranks p q)

  pub is_ge_Decides : Decides (is_ge (rational_cmp p q)) (q ≤ℚ p)
  is_ge_Decides = is_ge_lem (rational_cmp p q) (rational_ranks p q)

  pub is_gt_Decides : Decides (is_gt (rational_cmp p q)) (q ‹ℚ p)
  is_gt_Decides = is_gt_lem (rational_cmp p q) (rational_ranks p q)

  -- from a test that passed, or failed
  pub le_from_test : is_le (rational_cmp p q) ≡ true → p ≤ℚ q
  le_from_test = is_le_Decides.0

  pub lt_from_test : is_lt (rational_cmp p q) ≡ true → p ‹ℚ q
  lt_from_test = is_lt_Decides.0

  pub ge_from_test : is_ge (rational_cmp p q) ≡ true → q ≤ℚ p
  ge_from_test = is_ge_Decides.0

  pub gt_from_test : is_gt (rational_cmp p q) ≡ true → q ‹ℚ p
  gt_from_test = is_gt_Decides.0

  failed_lem : (r : Ordering)
      → (is_le r ≡ false → is_gt r ≡ true) × (is_lt r ≡ false → is_ge r ≡ true)
      × (is_ge r ≡ false → is_lt r ≡ true) × (is_gt r ≡ false → is_le r ≡ true)
  failed_lem Less = (λ e. absurd (true≢false e), λ e. absurd (true≢false e), λ e. refl, λ e. refl)
  failed_lem Equal = (λ e. absurd (true≢false e), λ e. refl, λ e. absurd (true≢false e), λ e. refl)
  failed_lem Greater =
      (λ e. refl, λ e. refl, λ e. absurd (true≢false e), λ e. absurd (true≢false e))

  pub gt_from_failed : is_le (rational_cmp p q) ≡ false → q ‹ℚ p
  gt_from_failed e = gt_from_test ((failed_lem (rational_cmp p q)).0 e)

  pub ge_from_failed : is_lt (rational_cmp p q) ≡ false → q ≤ℚ p
  ge_from_failed e = ge_from_test ((failed_lem (rational_cmp p q)).1 e)

  pub lt_from_failed : is_ge (rational_cmp p q) ≡ false → p ‹ℚ q
  lt_from_failed e = lt_from_test ((failed_lem (rational_cmp p q)).2 e)

  pub le_from_failed : is_gt (rational_cmp p q) ≡ false → p ≤ℚ q
  le_from_failed e = le_from_test ((failed_lem (rational_cmp p q)).3 e)

  -- and to a test
  pub test_from_le : p ≤ℚ q → is_le (rational_cmp p q) ≡ true
  test_from_le = is_le_Decides.1

  pub test_from_lt : p ‹ℚ q → is_lt (rational_cmp p q) ≡ true
  test_from_lt = is_lt_Decides.1

  pub test_from_ge : q ≤ℚ p → is_ge (rational_cmp p q) ≡ true
  test_from_ge = is_ge_Decides.1

  pub test_from_gt : q ‹ℚ p → is_gt (rational_cmp p q) ≡ true
  test_from_gt = is_gt_Decides.1

pub ruleset rational_tests = (
  le_from_test,
  lt_from_test,
  ge_from_test,
  gt_from_test,
  gt_from_failed,
  ge_from_failed,
  lt_from_failed,
  le_from_failed,
  test_from_le,
  test_from_lt,
  test_from_ge,
  test_from_gt,
  rational_eq-true,
  rational_eq-false,
  eq_rational_eq,
  ≤ℚ_from_‹ℚ,
  ≤ℚ_from_≡,
)

-- ---- whether a number is 0

pub zero_test : (q : Rational) → q ≡ zero_ℚ → not (rational_eq q zero_ℚ) ≡ false
zero_test q e = ap not (eq_rational_eq q zero_ℚ e)

pub zero_from_test : (q : Rational) → not (rational_eq q zero_ℚ) ≡ false → q ≡ zero_ℚ
zero_from_test q = by_test (rational_eq q zero_ℚ) refl
  where
    by_test : (b : Bool) → rational_eq q zero_ℚ ≡ b → not b ≡ false → q ≡ zero_ℚ
    by_test true e h = rational_eq-true q zero_ℚ e
    by_test false e h = absurd (true≢false h)

pub nonzero_test : (q : Rational) → q ≢ zero_ℚ → not (rational_eq q zero_ℚ) ≡ true
nonzero_test q n = true_from_ne_false (not (rational_eq q zero_ℚ)) (λ e. n (zero_from_test q e))

pub nonzero_from_test : (q : Rational) → not (rational_eq q zero_ℚ) ≡ true → q ≢ zero_ℚ
nonzero_from_test q h e = true≢false (sym h ∙ zero_test q e)
