-- Sums from the left, each step of which must fit.
use Rattle.std.specs.Prelude.{List, [], ◌∷◌, fold}
use Rattle.ratio_core.specs.Rational.{Rational, ◌+ℚ◌, SumFits}

-- the numbers added to a number, one after another
abbrev pub sum_from : Rational → List Rational → Rational
sum_from sum qs = fold ◌+ℚ◌ sum qs

-- each of these sums fits
unfoldable pub FoldFits : Rational → List Rational → Type 0
FoldFits sum [] = Unit {0}
FoldFits sum (q ∷ qs) = SumFits sum q × FoldFits (sum +ℚ q) qs
