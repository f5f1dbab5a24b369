-- Sums, multiples, and compositions of affine functions, and what of them fits in the numbers that
-- are kept.
--
-- Every sum is made from the left, and each of its steps must fit. The results themselves have no
-- order: they are the sum, the multiple, the value and the composition of functions.
use Rattle.std.specs.Prelude.{◌≡◌, IsTrue, List, [], ◌∷◌, ◌++◌, All, Option, Some, None, unwrap_or}
use Rattle.std.specs.FinMap as finite
use Rattle.std.specs.FinMap.{FinMap}
use Rattle.std.specs.declared.cmp.Ordering.{Ordering}
use Rattle.ratio_core.specs.Rational.{Rational, zero_ℚ, ◌+ℚ◌, ◌*ℚ◌, Fits, SumFits}
use Rattle.aff_core.specs.Terms.{TimesFit, ValueFits, linear, times}
use Rattle.aff_core.specs.Function.{FunctionOver, coefficient, constant_function, function_of, terms_of, value_of}

-- ---- sums of coefficients

-- a number added to the coefficient that it meets, if it meets one
abbrev pub met : Option Rational → Rational → Rational
met None q = q
met (Some p) q = p +ℚ q

abbrev pub MeetsFit : Option Rational → Rational → Type 0
MeetsFit None q = Unit {0}
MeetsFit (Some p) q = SumFits p q

module _ {K : Type 0} {R : K → K → Ordering} where
  abbrev pub added_at : FinMap R Rational → K → Rational → FinMap R Rational
  added_at m at q = finite.insert m at (met (finite.get m at) q)

  -- terms added from the first to the last, each to the coefficient that it meets
  unfoldable pub added_terms : FinMap R Rational → List (K × Rational) → FinMap R Rational
  added_terms m [] = m
  added_terms m (t ∷ ts) = added_terms (added_at m t.0 t.1) ts

  -- and each of these sums fits
  unfoldable pub TermsFit : FinMap R Rational → List (K × Rational) → Type 0
  TermsFit m [] = Unit {0}
  TermsFit m (t ∷ ts) = MeetsFit (finite.get m t.0) t.1 × TermsFit (added_at m t.0 t.1) ts

  -- ---- points

  -- the number of a key at a point, which is 0 where it has none
  abbrev pub number_at : FinMap R Rational → K → Rational
  number_at point at = unwrap_or (finite.get point at) zero_ℚ

  -- each key that the function mentions is one of the map
  abbrev pub HasEach : {X : Type 0} → FinMap R X → FunctionOver R → Type 0
  HasEach m f = All (λ t. IsTrue (finite.contains_key m t.0)) (terms_of f)

  -- ---- multiples

  unfoldable pub scaled : Rational → FunctionOver R → FunctionOver R
  scaled c f = function_of (times c (terms_of f)) (c *ℚ f.constant)

  -- each product fits
  pub record ProductsFit (c : Rational) (f : FunctionOver R) : Type 0 where
    pub constant : Fits (c *ℚ f.constant)
    pub terms : TimesFit c (terms_of f)

  -- each number is that of f times c
  pub record IsMultiple (c : Rational) (f h : FunctionOver R) : Type 0 where
    pub same : h ≡ scaled c f
    pub constant : h.constant ≡ c *ℚ f.constant
    pub coefficients : (v : K) → coefficient h v ≡ c *ℚ coefficient f v

  -- ---- sums

  unfoldable pub sum_of : FunctionOver R → FunctionOver R → FunctionOver R
  sum_of f g =
      function_of (finite.entries (added_terms f.terms (terms_of g))) (f.constant +ℚ g.constant)

  -- the sum of the constants, and that of two coefficients of one key
  pub record PlusFits (f g : FunctionOver R) : Type 0 where
    pub constant : SumFits f.constant g.constant
    pub terms : TermsFit f.terms (terms_of g)

  -- each number is the sum of those of f and g
  pub record IsSum (f g h : FunctionOver R) : Type 0 where
    pub same : h ≡ sum_of f g
    pub constant : h.constant ≡ f.constant +ℚ g.constant
    pub coefficients : (v : K) → coefficient h v ≡ coefficient f v +ℚ coefficient g v

-- ---- compositions: the function with the expression of each key, over other keys, in its place

-- the expression of a key, which is 0 where it has none
abbrev pub expression_at : {K J : Type 0} {R : K → K → Ordering} {S : J → J → Ordering}
    → FinMap R (FunctionOver S) → K → FunctionOver S
expression_at exprs at = unwrap_or (finite.get exprs at) (constant_function zero_ℚ)

-- each coefficient times the terms of its key's expression, one after the other
unfoldable pub substituted : {K J : Type 0} {S : J → J → Ordering} → (K → FunctionOver S)
    → List (K × Rational) → List (J × Rational)
substituted e [] = []
substituted e (t ∷ ts) = times t.1 (terms_of (e t.0)) ++ substituted e ts

module _ {K J : Type 0} {R : K → K → Ordering} {S : J → J → Ordering} where
  unfoldable pub composed : (K → FunctionOver S) → FunctionOver R → FunctionOver S
  composed e f =
      function_of (finite.entries (added_terms (finite.empty {R = S}) (substituted e (terms_of f))))
      (value_of f (λ u. (e u).constant))

  -- each product and each sum of it fits
  pub record SubstitutionFits (e : K → FunctionOver S) (f : FunctionOver R) : Type 0 where
    pub constant : ValueFits f.constant (terms_of f) (λ u. (e u).constant)
    pub products : All (λ t. TimesFit t.1 (terms_of (e t.0))) (terms_of f)
    pub sums : TermsFit (finite.empty {R = S}) (substituted e (terms_of f))

  -- each number is the value of f where each key has that number of its expression
  pub record IsComposition (e : K → FunctionOver S) (f : FunctionOver R)
      (h : FunctionOver S) : Type 0 where
    pub same : h ≡ composed e f
    pub constant : h.constant ≡ value_of f (λ u. (e u).constant)
    pub coefficients : (v : J) → coefficient h v ≡ linear (terms_of f) (λ u. coefficient (e u) v)
