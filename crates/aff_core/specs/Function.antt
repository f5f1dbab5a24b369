-- Affine functions: a finite map from keys to their coefficients, none of which is 0, and a
-- constant.
--     FunctionOver R        over keys in the order R.          Function      over addresses
--     terms_of coefficient               what a function has
--     value_of slope evaluated           what it is at a point and along a ray
--     function_of           of terms in the order of their keys, less those with the coefficient 0
--     constant_function variable negated with_coefficient gathered      other functions
use Rattle.std.specs.Prelude.{◌≡◌, ◌≢◌, Bool, true, false, cond, List, [], ◌∷◌, filter, All, unwrap_or, refl}
use Rattle.std.specs.Bool.{passes}
use Rattle.std.proofs.Common.{ap, ◌∙◌}
use Rattle.std.proofs.Math.Bool.{Bool-set}
use Rattle.std.proofs.lemmas.List.Sums.{list_all-from_AllPass}
use Rattle.std.proofs.lemmas.List.Elements.{filter_passes}
use Rattle.std.specs.Coded.{Coded, coded×}
use Rattle.std.specs.List.{list_all}
use Rattle.std.specs.declared.cmp.Ordering.{Ordering}
use Rattle.std.specs.FinMap as finite
use Rattle.std.specs.FinMap.{FinMap}
use base.Stored.{coded_via}
use mathlib.Core.HLevel.{is_prop→PathP}
use Rattle.ratio_core.specs.Rational.{Rational, rational_code, zero_ℚ, one_ℚ, neg_ℚ, ◌+ℚ◌, ◌*ℚ◌}
use Rattle.aff_core.specs.Address.{address_cmp, address_code}
use Rattle.aff_core.specs.Terms.{is_nonzero, HaveNoZero, linear, negated_terms}

-- ---- terms for a function

-- the list, or none of it where its keys don't strictly rise
abbrev pub if_rising : {K : Type 0} → (K → K → Ordering) → List (K × Rational) → List (K × Rational)
if_rising R ts = cond (finite.is_sorted R ts) ts []

module _ {K : Type 0} (R : K → K → Ordering) where
  if_rising_rises : (ts : List (K × Rational)) → finite.is_sorted R (if_rising R ts) ≡ true
  if_rising_rises ts = by (finite.is_sorted R ts) refl
    where
      by : (b : Bool) → finite.is_sorted R ts ≡ b → finite.is_sorted R (cond b ts []) ≡ true
      by true e = e
      by false e = refl

  none_zero : (ts : List (K × Rational)) → HaveNoZero (if_rising R (filter is_nonzero ts))
  none_zero ts = by (finite.is_sorted R (filter is_nonzero ts))
    where
      by : (b : Bool) → HaveNoZero (cond b (filter is_nonzero ts) [])
      by true =
          list_all-from_AllPass is_nonzero (filter is_nonzero ts) (filter_passes is_nonzero ts)
      by false = refl

  pub kept_nonzero : (ts : List (K × Rational))
      → HaveNoZero (finite.entries (finite.from_sorted {R = R}
      (if_rising R (filter is_nonzero ts))))
  kept_nonzero ts =
      ap (list_all is_nonzero) (finite.entries-from_sorted R (if_rising R (filter is_nonzero ts))
      (passes _ (if_rising_rises (filter is_nonzero ts))))
      ∙ none_zero ts

-- ---- functions

pub record FunctionOver {K : Type 0} (R : K → K → Ordering) : Type 0 where
  pub terms : FinMap R Rational
  pub constant : Rational
  pub nonzero : HaveNoZero (finite.entries terms)

abbrev pub Function : Type 0
Function = FunctionOver address_cmp

module _ {K : Type 0} {R : K → K → Ordering} where
  abbrev pub function_parts : FunctionOver R → FinMap R Rational × Rational
  function_parts f = (f.terms, f.constant)

  -- a function is its two parts
  pub same_parts : (f g : FunctionOver R) → function_parts f ≡ function_parts g → f ≡ g
  same_parts f g e = λ i. record {
    terms = (e i).0;
    constant = (e i).1;
    nonzero = is_prop→PathP (λ j. HaveNoZero (finite.entries (e j).0)) (λ j. Bool-set _ _) f.nonzero
        g.nonzero i;
  }

  -- and is stored as them
  abbrev pub code_over : Coded K → Coded (FunctionOver R)
  code_over key =
      coded_via (coded× (finite.code key rational_code) rational_code) function_parts same_parts

  -- the terms in the order of their keys
  abbrev pub terms_of : FunctionOver R → List (K × Rational)
  terms_of f = finite.entries f.terms

  -- the coefficient of a key, which is 0 where the function doesn't mention it
  abbrev pub coefficient : FunctionOver R → K → Rational
  coefficient f at = unwrap_or (finite.get f.terms at) zero_ℚ

  -- ---- functions of terms

  -- the function of terms in the order of their keys, of which those with the coefficient 0 are
  -- left out
  unfoldable pub function_of : List (K × Rational) → Rational → FunctionOver R
  function_of ts constant = record {
    terms = finite.from_sorted (if_rising R (filter is_nonzero ts));
    constant = constant;
    nonzero = kept_nonzero R ts;
  }

  -- the function of terms in any order, where the first of each key counts
  unfoldable pub gathered : List (K × Rational) → Rational → FunctionOver R
  gathered ts constant = function_of (finite.entries (finite.from_entries {R = R} ts)) constant

  unfoldable pub constant_function : Rational → FunctionOver R
  constant_function constant = function_of [] constant

  unfoldable pub variable : K → FunctionOver R
  variable v = function_of ((v, one_ℚ) ∷ []) zero_ℚ

  -- each number negated
  unfoldable pub negated : FunctionOver R → FunctionOver R
  negated f = function_of (negated_terms (terms_of f)) (neg_ℚ f.constant)

  -- the function with this coefficient at the key, where 0 removes the term
  unfoldable pub with_coefficient : FunctionOver R → K → Rational → FunctionOver R
  with_coefficient f at value =
      function_of (finite.entries (finite.insert f.terms at value)) f.constant

  -- the same with no word on maps: this coefficient alone is changed
  pub record HasCoefficient (f : FunctionOver R) (at : K) (value : Rational)
      (h : FunctionOver R) : Type 0 where
    pub constant : h.constant ≡ f.constant
    pub here : coefficient h at ≡ value
    pub elsewhere : (u : K) → u ≢ at → coefficient h u ≡ coefficient f u

  -- the function's coefficients are those of the terms
  abbrev pub HasEachTerm : List (K × Rational) → FunctionOver R → Type 0
  HasEachTerm ts f = All (λ t. coefficient f t.0 ≡ t.1) ts

  -- each number is that of f negated
  pub record IsNegated (f h : FunctionOver R) : Type 0 where
    pub constant : h.constant ≡ neg_ℚ f.constant
    pub coefficients : (v : K) → coefficient h v ≡ neg_ℚ (coefficient f v)

  -- ---- values

  unfoldable pub value_of : FunctionOver R → (K → Rational) → Rational
  value_of f x = f.constant +ℚ linear (terms_of f) x

  -- the sum of the coefficients times the numbers of a ray
  abbrev pub slope : FunctionOver R → (K → Rational) → Rational
  slope f x = linear (terms_of f) x

  -- the slope with `one` times the constant: at a point `one` is 1, and along a ray it is 0
  abbrev pub evaluated : Rational → FunctionOver R → (K → Rational) → Rational
  evaluated one f x = one *ℚ f.constant +ℚ slope f x

-- a function of addresses is stored as its two parts
abbrev pub function_code : Coded Function
function_code = code_over address_code
