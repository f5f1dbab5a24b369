-- The least number below a bound that passes a test, and what tests of numbers against 0 say.
use Rattle.std.specs.Prelude.{◌≡◌, ℕ, zero, suc, ◌+◌, ◌<◌, ◌≤◌, Bool, true, false, not, Some, None, if◌then◌else◌, IsTrue}
use Rattle.std.proofs.Common.{sym, ◌∙◌, ap, arith, true≢false}
use Rattle.rational_laws.specs.Tests.{nonzero_test, zero_test}
use Rattle.ratio_core.specs.Rational.{Rational, rational_eq, zero_ℚ}
use Rattle.simplex_laws.specs.BoundedSumLaws.{same_or_other}
use Rattle.simplex_form.specs.Search.{least_below, or_else}

pub least_more : (n : ℕ) (test : ℕ → Bool) → least_below n test ≡ None → test n ≡ false
    → least_below (n + 1) test ≡ None
least_more n test e f =
    ap (λ k. least_below k test) (one_more n) ∙ (λ i. or_else (e i) (if f i then Some n else None))
  where
    one_more : (n : ℕ) → n + 1 ≡ suc n
    one_more n = omega arith

least_here : (j : ℕ) (test : ℕ → Bool) → least_below j test ≡ None → test j ≡ true
    → least_below (suc j) test ≡ Some j
least_here j test e f = λ i. or_else (e i) (if f i then Some j else None)

pub least_found : (n j : ℕ) (test : ℕ → Bool) → j < n → least_below j test ≡ None → test j ≡ true
    → least_below n test ≡ Some j
least_found zero j test b e f = absurd (omega (arith, b))
least_found (suc n) j test b e f =
    same_or_other (least_below (suc n) test ≡ Some j) j n
    (λ q. ap (λ k. least_below (suc k) test) (sym q) ∙ least_here j test e f)
    (λ m. ap (λ o. or_else o (if test n then Some n else None))
    (least_found n j test (omega (arith, b, m)) e f))

-- none below n, and none from n to m
pub least_past : (m n : ℕ) (test : ℕ → Bool) → least_below n test ≡ None → n ≤ m
    → ((j : ℕ) → n ≤ j → j < m → test j ≡ false) → least_below m test ≡ None
least_past zero n test e b f = ap (λ k. least_below k test) (none_lem n b) ∙ e
  where
    none_lem : (n : ℕ) → n ≤ 0 → 0 ≡ n
    none_lem n b = omega (arith, b)
least_past (suc m) n test e b f =
    same_or_other (least_below (suc m) test ≡ None) n (suc m)
    (λ q. ap (λ k. least_below k test) (sym q) ∙ e)
    (λ o. let few : n ≤ m = omega (arith, b, o) in
    λ i. or_else (least_past m n test e few (λ j c d. f j c (omega (arith, d))) i)
    (if f m few (omega arith) i then Some m else None))

-- ---- tests against 0

pub nonzero_told : (b : Bool) (x v : Rational) → x ≡ v → (x ≡ zero_ℚ → IsTrue b) → b ≡ false
    → not (rational_eq v zero_ℚ) ≡ true
nonzero_told b x v is back e = nonzero_test v (λ z. true≢false (sym (back (is ∙ z)) ∙ e))

pub zero_told : (b : Bool) (x v : Rational) → x ≡ v → (IsTrue b → x ≡ zero_ℚ) → b ≡ true
    → not (rational_eq v zero_ℚ) ≡ false
zero_told b x v is forth e = zero_test v (sym is ∙ forth e)
