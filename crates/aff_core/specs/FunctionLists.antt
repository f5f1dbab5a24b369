-- Lists of affine functions, as the components of a vector function: what each is at a point and
-- along a ray.
use Rattle.std.specs.Prelude.{List, map}
use Rattle.std.specs.declared.cmp.Ordering.{Ordering}
use Rattle.ratio_core.specs.Rational.{Rational}
use Rattle.aff_core.specs.Function.{FunctionOver, coefficient, evaluated, slope, value_of}

module _ {K : Type 0} {R : K → K → Ordering} where
  abbrev pub values : List (FunctionOver R) → (K → Rational) → List Rational
  values fs x = map (λ f. value_of f x) fs

  abbrev pub slopes : List (FunctionOver R) → (K → Rational) → List Rational
  slopes fs x = map (λ f. slope f x) fs

  -- values where `one` is 1, and slopes where it is 0
  abbrev pub evaluations : Rational → List (FunctionOver R) → (K → Rational) → List Rational
  evaluations one fs x = map (λ f. evaluated one f x) fs

  abbrev pub constants : List (FunctionOver R) → List Rational
  constants fs = map (λ f. f.constant) fs

  -- the coefficients that they have of a key
  abbrev pub coefficients : List (FunctionOver R) → K → List Rational
  coefficients fs v = map (λ f. coefficient f v) fs
