-- Lists of terms: keys with their coefficients.
use Rattle.std.specs.Prelude.{Bool, not, IsTrue, List, [], ◌∷◌, map, All}
use Rattle.std.specs.List.{list_all}
use Rattle.ratio_core.specs.Rational.{Rational, zero_ℚ, ◌+ℚ◌, ◌*ℚ◌, neg_ℚ, rational_eq, Fits, SumFits}

abbrev pub is_nonzero : {K : Type 0} → K × Rational → Bool
is_nonzero t = not (rational_eq t.1 zero_ℚ)

-- no term has the coefficient 0
abbrev pub HaveNoZero : {K : Type 0} → List (K × Rational) → Type 0
HaveNoZero ts = IsTrue (list_all is_nonzero ts)

-- each coefficient negated
abbrev pub negated_terms : {K : Type 0} → List (K × Rational) → List (K × Rational)
negated_terms ts = map (λ t. (t.0, neg_ℚ t.1)) ts

-- each coefficient times a number
abbrev pub times : {K : Type 0} → Rational → List (K × Rational) → List (K × Rational)
times c ts = map (λ t. (t.0, c *ℚ t.1)) ts

abbrev pub TimesFit : {K : Type 0} → Rational → List (K × Rational) → Type 0
TimesFit c ts = All (λ t. Fits (c *ℚ t.1)) ts

-- the sum of coefficient times number
unfoldable pub linear : {K : Type 0} → List (K × Rational) → (K → Rational) → Rational
linear [] x = zero_ℚ
linear (t ∷ ts) x = (t.1 *ℚ x t.0) +ℚ linear ts x

-- a number and the same, added from the left
unfoldable pub value_from : {K : Type 0} → Rational → List (K × Rational) → (K → Rational)
    → Rational
value_from sum [] x = sum
value_from sum (t ∷ ts) x = value_from (sum +ℚ (t.1 *ℚ x t.0)) ts x

-- a product, and its sum with what is there, fit
pub record StepFits (sum a b : Rational) : Type 0 where
  pub product : Fits (a *ℚ b)
  pub total : SumFits sum (a *ℚ b)

-- each step of the sum from the left fits
unfoldable pub ValueFits : {K : Type 0} → Rational → List (K × Rational) → (K → Rational) → Type 0
ValueFits sum [] x = Unit {0}
ValueFits sum (t ∷ ts) x = StepFits sum t.1 (x t.0) × ValueFits (sum +ℚ (t.1 *ℚ x t.0)) ts x
