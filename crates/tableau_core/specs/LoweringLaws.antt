-- A number lowered by a multiple: what of it must fit, and where it changes nothing.
use Rattle.std.specs.Prelude.{◌≡◌, Bool, true, false, ◌&&◌, Result, Ok, Err, IsErr, is_ok, refl}
use Rattle.std.proofs.Common.{sym, ◌∙◌, ap, ap₂, subst, true≢false}
use Rattle.std.proofs.lemmas.Bool.{and_parts}
use Rattle.ratio_core.specs.Rational.{Fits, Rational, SumFits, fits, neg_ℚ, sum_fits, zero_ℚ, ◌*ℚ◌, ◌+ℚ◌, ◌-ℚ◌}
use Rattle.ratio_core.specs.RationalLaws.{fits_Decides, sum_fits_Decides}
use Rattle.rational_laws.specs.Field.{*ℚ-zero, +ℚ-zero, neg_ℚ-zero, zero-*ℚ}
use Rattle.rational_laws.specs.Fitting.{Fits_zero}
use Rattle.rational_laws.specs.ZeroSums.{SumFits-zero_right}
use Rattle.simplex_form.specs.Fit.{lowered_fits}

pub fits_from : (q : Rational) → Fits q → fits q ≡ true
fits_from q = (fits_Decides q).1

pub false_from_not : (b : Bool) (P : Type 0) → (b ≡ true → P) → ¬ P → b ≡ false
false_from_not true P h n = absurd (n (h refl))
false_from_not false P h n = refl

lowered_from : (a e t : Rational) → Fits (e *ℚ t) → SumFits a (neg_ℚ (e *ℚ t))
    → lowered_fits a e t ≡ true
lowered_from a e t f g =
    ap₂ ◌&&◌ ((fits_Decides (e *ℚ t)).1 f) ((sum_fits_Decides a (neg_ℚ (e *ℚ t))).1 g)

lowered_at : (a e t : Rational) → lowered_fits a e t ≡ true
    → Fits (e *ℚ t) × SumFits a (neg_ℚ (e *ℚ t))
lowered_at a e t h =
    let both : (fits (e *ℚ t) ≡ true) × (sum_fits a (neg_ℚ (e *ℚ t)) ≡ true) =
    and_parts (fits (e *ℚ t)) (sum_fits a (neg_ℚ (e *ℚ t))) h in
    ((fits_Decides (e *ℚ t)).0 both.0, (sum_fits_Decides a (neg_ℚ (e *ℚ t))).0 both.1)

-- one number: a product or a difference that doesn't fit, and both that do
pub product_refused : (a e t : Rational) → ¬ (Fits (e *ℚ t)) → lowered_fits a e t ≡ false
product_refused a e t n =
    false_from_not (lowered_fits a e t) (Fits (e *ℚ t)) (λ h. (lowered_at a e t h).0) n

pub difference_refused : (a e t m : Rational) → m ≡ e *ℚ t → ¬ (SumFits a (neg_ℚ m))
    → lowered_fits a e t ≡ false
difference_refused a e t m is n =
    false_from_not (lowered_fits a e t) (SumFits a (neg_ℚ m)) (λ h. subst (λ x. SumFits a (neg_ℚ x))
    (sym is) (lowered_at a e t h).1) n

pub lowered_made : (a e t m : Rational) → m ≡ e *ℚ t → Fits (e *ℚ t) → SumFits a (neg_ℚ m)
    → lowered_fits a e t ≡ true
lowered_made a e t m is f g = lowered_from a e t f (subst (λ x. SumFits a (neg_ℚ x)) is g)

-- a step of 0, or a multiple of 0, fits and changes nothing
pub lowered_fits-zero : (a e t : Rational) → e *ℚ t ≡ zero_ℚ → Fits a → lowered_fits a e t ≡ true
lowered_fits-zero a e t z f =
    lowered_from a e t (subst Fits (sym z) Fits_zero) (subst (λ x. SumFits a (neg_ℚ x)) (sym z)
    (subst (SumFits a) (sym neg_ℚ-zero) (SumFits-zero_right a f)))

pub lowered-zero : (a e t : Rational) → e *ℚ t ≡ zero_ℚ → a -ℚ e *ℚ t ≡ a
lowered-zero a e t z = ap (λ x. a -ℚ x) z ∙ ap (λ x. a +ℚ x) neg_ℚ-zero ∙ +ℚ-zero a

pub step-zero : (e t : Rational) → t ≡ zero_ℚ → e *ℚ t ≡ zero_ℚ
step-zero e t z = ap (λ x. e *ℚ x) z ∙ *ℚ-zero e

pub zero-step : (e t : Rational) → e ≡ zero_ℚ → e *ℚ t ≡ zero_ℚ
zero-step e t z = ap (λ x. x *ℚ t) z ∙ zero-*ℚ t

-- ---- answers

pub is_ok-ok : {T E : Type 0} (r : Result T E) (x : T) → r ≡ Ok x → is_ok r ≡ true
is_ok-ok r x e = ap is_ok e

pub is_ok-err : {T E : Type 0} (r : Result T E) → IsErr r → is_ok r ≡ false
is_ok-err (Ok x) h = absurd (true≢false (sym h))
is_ok-err (Err e) h = refl
