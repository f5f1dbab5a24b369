-- Tests of vectors of rational numbers.
use Rattle.std.specs.Prelude.{◌≡◌, List, map, All, slice_index_or, drop}
use Rattle.ratio_core.specs.Folds.{FoldFits, sum_from}
use Rattle.ratio_core.specs.Rational.{Rational, zero_ℚ, ◌≤ℚ◌, abs_ℚ}

-- the first number, and those after it
abbrev pub first_of : List Rational → Rational
first_of v = slice_index_or v 0 zero_ℚ

abbrev pub others_of : List Rational → List Rational
others_of v = drop 1 v

abbrev pub AllZero : List Rational → Type 0
AllZero v = All (λ q. q ≡ zero_ℚ) v

abbrev pub AllNonnegative : List Rational → Type 0
AllNonnegative v = All (λ q. zero_ℚ ≤ℚ q) v

abbrev pub AllNonpositive : List Rational → Type 0
AllNonpositive v = All (λ q. q ≤ℚ zero_ℚ) v

-- the first is at least the magnitude of each other
abbrev pub DominatesEach : List Rational → Type 0
DominatesEach v = All (λ q. abs_ℚ q ≤ℚ first_of v) (others_of v)

-- the magnitudes of the others
abbrev pub magnitudes : List Rational → List Rational
magnitudes v = map abs_ℚ (others_of v)

-- the first is at least the sum of the magnitudes of the others
abbrev pub DominatesSum : List Rational → Type 0
DominatesSum v = sum_from zero_ℚ (magnitudes v) ≤ℚ first_of v

abbrev pub NormFits : List Rational → Type 0
NormFits v = FoldFits zero_ℚ (magnitudes v)
