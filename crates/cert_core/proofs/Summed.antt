-- Numbers added up, step by step.
use Rattle.std.specs.Prelude.{◌≡◌, ℕ, ℤ, ◌^◌, ◌<◌, ◌/◌, List, [], ◌∷◌, ◌++◌, All, unsigned_abs, refl}
use Rattle.std.specs.Int.{is_negative}
use Rattle.std.proofs.Common.{sym, ◌∙◌, ap, subst, arith}
use Rattle.std.proofs.lemmas.List.Elements.{All-head, All-tail}
use Rattle.std.proofs.Math.Nat.{div-le_self}
use Rattle.std.proofs.lemmas.List.Sums.{fold-append}
use Rattle.ratio_core.specs.Folds.{sum_from}
use Rattle.ratio_core.specs.Rational.{Fits, Rational, SumFits, common_divisor, neg_ℚ, sum_of_terms, zero_ℚ, ◌*ℚ◌, ◌+ℚ◌, ◌-ℚ◌}
use Rattle.ratio_core.specs.Gcd.{gcd}
use Rattle.ratio_core.specs.RationalLaws.{unsigned_abs-signed}
use Rattle.ratio_core.proofs.Products.{signed_itself}
use Rattle.ratio_core.proofs.Sums.{sum_value}
use Rattle.rational_laws.specs.Field.{+ℚ-zero, neg_ℚ-neg_ℚ}
use Rattle.rational_laws.specs.Fitting.{Fits_neg_ℚ, Fits_zero}
use Rattle.aff_core.specs.Terms.{StepFits}
use Rattle.cert_core.specs.Folds.{AddUp}
use Rattle.rational_laws.specs.ZeroSums.{SumFits-zero_right}

-- ---- a sum whose steps fit fits

small : (n d : ℕ) → n < 2 ^ 127 → n / d < 2 ^ 127
small n d lt = omega (arith, lt, div-le_self n d)

pub Fits_sum : (p q : Rational) → SumFits p q → Fits (p +ℚ q)
Fits_sum p q h =
    let sum : ℤ = sum_of_terms p q in
    let divisor : ℕ = gcd (unsigned_abs sum) (common_divisor p q) in
    subst Fits (sym (sum_value p q (is_negative sum) (signed_itself sum))) (record {
      num = subst (λ n. n < 2 ^ 127)
          (sym (unsigned_abs-signed (is_negative sum) (unsigned_abs sum / divisor)))
          (small (unsigned_abs sum) divisor h.sum);
      den = h.denominator;
    })

pub Fits_sum_from : (sum : Rational) (qs : List Rational) → Fits sum → AddUp sum qs
    → Fits (sum_from sum qs)
unfolding AddUp
Fits_sum_from sum [] f h = f
Fits_sum_from sum (q ∷ qs) f h = Fits_sum_from (sum +ℚ q) qs (Fits_sum sum q h.1) h.2

-- ---- one list after another

pub AddUp-append : (sum : Rational) (xs ys : List Rational) → AddUp sum xs
    → AddUp (sum_from sum xs) ys → AddUp sum (xs ++ ys)
unfolding AddUp
AddUp-append sum [] ys h k = k
AddUp-append sum (x ∷ xs) ys h k = (h.0, h.1, AddUp-append (sum +ℚ x) xs ys h.2 k)

pub AddUp_parts : (sum : Rational) (xs ys : List Rational) → AddUp sum (xs ++ ys)
    → AddUp sum xs × AddUp (sum_from sum xs) ys
unfolding AddUp
AddUp_parts sum [] ys h = (tt, h)
AddUp_parts sum (x ∷ xs) ys h =
    let parts = AddUp_parts (sum +ℚ x) xs ys h.2 in ((h.0, h.1, parts.0), parts.1)

pub AddUp_one : (sum a b : Rational) → StepFits sum a b → AddUp sum (a *ℚ b ∷ [])
unfolding AddUp
AddUp_one sum a b h = (h.product, h.total, tt)

pub step_of_one : (sum a b : Rational) → AddUp sum (a *ℚ b ∷ []) → StepFits sum a b
unfolding AddUp
step_of_one sum a b h = record { product = h.0; total = h.1 }

-- ---- zeros

pub zeros_add_up : (sum : Rational) (qs : List Rational) → Fits sum → All (λ q. q ≡ zero_ℚ) qs
    → AddUp sum qs × (sum_from sum qs ≡ sum)
unfolding AddUp
zeros_add_up sum [] f h = (tt, refl)
zeros_add_up sum (q ∷ qs) f h =
    let zero : q ≡ zero_ℚ = All-head (λ q. q ≡ zero_ℚ) q qs h in
    let same : sum +ℚ q ≡ sum = ap (λ r. sum +ℚ r) zero ∙ +ℚ-zero sum in
    let rest = zeros_add_up sum qs f (All-tail (λ q. q ≡ zero_ℚ) q qs h) in (
      (
        subst Fits (sym zero) Fits_zero,
        subst (SumFits sum) (sym zero) (SumFits-zero_right sum f),
        subst (λ r. AddUp r qs) (sym same) rest.0,
      ),
      ap (λ r. sum_from r qs) same ∙ rest.1,
    )

-- ---- what is left, from the sum so far, is as all of it is

pub record SummedAsAll (start sum : Rational) (qs left : List Rational) : Type 0 where
  pub value : sum_from sum left ≡ sum_from start qs
  pub fits : AddUp sum left → AddUp start qs
  pub only : AddUp start qs → AddUp sum left

module _ (start sum : Rational) (qs left : List Rational) (h : SummedAsAll start sum qs left) where
  pub summed_end : left ≡ [] → AddUp start qs × (sum ≡ sum_from start qs)
  unfolding AddUp
  summed_end end = (
    h.fits (subst (AddUp sum) (sym end) tt),
    sym (ap (sum_from sum) end) ∙ h.value,
  )

  module _ (now rest : List Rational) (next : left ≡ now ++ rest) where
    pub summed_step : AddUp sum now → SummedAsAll start (sum_from sum now) qs rest
    summed_step up = record {
      value = sym (ap (sum_from sum) next ∙ fold-append ◌+ℚ◌ sum now rest) ∙ h.value;
      fits = λ k. h.fits (subst (AddUp sum) (sym next) (AddUp-append sum now rest up k));
      only = λ k. (AddUp_parts sum now rest (subst (AddUp sum) next (h.only k))).1;
    }

    pub summed_refused : AddUp start qs → AddUp sum now
    summed_refused k = (AddUp_parts sum now rest (subst (AddUp sum) next (h.only k))).0

-- one product more
module _ (start sum : Rational) (qs left rest : List Rational) (a b : Rational)
    (h : SummedAsAll start sum qs left) (next : left ≡ a *ℚ b ∷ rest) where
  pub product_step : (total : Rational) → StepFits sum a b → total ≡ sum +ℚ a *ℚ b
      → SummedAsAll start total qs rest
  product_step total step is =
      subst (λ s. SummedAsAll start s qs rest) (sym is)
      (summed_step start sum qs left h (a *ℚ b ∷ []) rest next (AddUp_one sum a b step))

  pub product_refused : AddUp start qs → StepFits sum a b
  product_refused all =
      step_of_one sum a b (summed_refused start sum qs left h (a *ℚ b ∷ []) rest next all)

-- one negated number more
module _ (start sum : Rational) (qs left rest : List Rational) (p : Rational)
    (h : SummedAsAll start sum qs left) (next : left ≡ neg_ℚ p ∷ rest) where
  pub negated_step : (total : Rational) → Fits p → SumFits sum (neg_ℚ p) → total ≡ sum -ℚ p
      → SummedAsAll start total qs rest
  unfolding AddUp
  negated_step total fits sums is =
      subst (λ s. SummedAsAll start s qs rest) (sym is)
      (summed_step start sum qs left h (neg_ℚ p ∷ []) rest next (Fits_neg_ℚ p fits, sums, tt))

  pub negated_refused : AddUp start qs → Fits p × SumFits sum (neg_ℚ p)
  unfolding AddUp
  negated_refused all =
      let now = summed_refused start sum qs left h (neg_ℚ p ∷ []) rest next all in
      (subst Fits (neg_ℚ-neg_ℚ p) (Fits_neg_ℚ (neg_ℚ p) now.0), now.1)
