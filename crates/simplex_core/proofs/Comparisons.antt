-- What the code's tests say of the numbers that the board has.
use Rattle.std.specs.Prelude.{◌≡◌, ℕ, ◌≤◌, Bool, true, false, not, nat_le, Option, None, if◌then◌else◌, Result, Ok, Err, IsOk, OkIff, is_err, refl}
use Rattle.std.proofs.Common.{sym, ◌∙◌, arith}
use Rattle.std.proofs.lemmas.Bool.{cond-true, le-leb}
use Rattle.ratio_core.specs.Rational.{Rational, SumFits, neg_ℚ, one_ℚ, sum_fits}
use Rattle.ratio_core.specs.RationalLaws.{sum_fits_Decides}

-- ---- a difference that fits

pub difference_fits : {E : Type 0} (r : Result Rational E) (o p v w : Rational)
    → OkIff r (SumFits o (neg_ℚ p)) v → o ≡ one_ℚ → p ≡ w
    → sum_fits one_ℚ (neg_ℚ w) ≡ not (is_err r)
difference_fits (Ok x) o p v w h one is =
    (λ i. sum_fits (sym one i) (neg_ℚ (sym is i))) ∙ (sum_fits_Decides o (neg_ℚ p)).1 h.0
difference_fits (Err e) o p v w h one is = by_test (sum_fits one_ℚ (neg_ℚ w)) refl
  where
    by_test : (t : Bool) → sum_fits one_ℚ (neg_ℚ w) ≡ t → t ≡ false
    by_test true k =
        absurd (h ((sum_fits_Decides o (neg_ℚ p)).0 ((λ i. sum_fits (one i) (neg_ℚ (is i))) ∙ k)))
    by_test false k = refl

pub ok_from_fits : {E : Type 0} (r : Result Rational E) (o p v w : Rational)
    → OkIff r (SumFits o (neg_ℚ p)) v → o ≡ one_ℚ → p ≡ w → sum_fits one_ℚ (neg_ℚ w) ≡ true → IsOk r
ok_from_fits (Ok x) o p v w h one is f = refl
ok_from_fits (Err e) o p v w h one is f =
    absurd (h ((sum_fits_Decides o (neg_ℚ p)).0 ((λ i. sum_fits (one i) (neg_ℚ (is i))) ∙ f)))

-- ---- a row of an artificial column

pub artificial_row : (c reals n : ℕ) (o : Option ℕ) → reals ≡ c → c ≤ n
    → (if nat_le reals n then o else None) ≡ o
artificial_row c reals n o e b =
    cond-true (nat_le reals n) o None (le-leb reals n (omega (arith, e, b)))
