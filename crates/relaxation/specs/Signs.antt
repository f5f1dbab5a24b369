-- The coefficients of a row's slacks.
use Rattle.std.specs.Prelude.{List, [], ◌∷◌}
use Rattle.ratio_core.specs.Rational.{Rational, neg_ℚ, one_ℚ}
use Rattle.relaxation.specs.declared.rows.Slacks.{Slacks}
use Rattle.relaxation.specs.declared.rows.Slacks.TheVariants as slacks

abbrev pub signs_of : Slacks → List Rational
signs_of slacks.None = []
signs_of slacks.Subtracted = neg_ℚ one_ℚ ∷ []
signs_of slacks.Added = one_ℚ ∷ []
signs_of slacks.Both = one_ℚ ∷ neg_ℚ one_ℚ ∷ []
