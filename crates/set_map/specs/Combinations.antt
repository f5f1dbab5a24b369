-- Combinations of affine functions: the sum of each times its weight. A matrix makes of functions one
-- combination for each of its rows.
use Rattle.std.specs.Prelude.{◌≡◌, List, [], ◌∷◌, map}
use Rattle.ratio_core.specs.Rational.{Rational, zero_ℚ}
use Rattle.aff_core.specs.Address.{Address}
use Rattle.aff_core.specs.Arithmetic.{scaled, sum_of}
use Rattle.aff_core.specs.Function.{Function, constant_function}
use Rattle.aff_core.specs.FunctionLists.{coefficients, constants}
use Rattle.set_map.specs.Matrices.{Matrix, applied}

-- the functions, each times its weight, added to another from the first on
unfoldable pub combined_from : Function → List Rational → List Function → Function
combined_from sum [] fs = sum
combined_from sum (q ∷ w) [] = sum
combined_from sum (q ∷ w) (f ∷ fs) = combined_from (sum_of sum (scaled q f)) w fs

abbrev pub combined : List Rational → List Function → Function
combined w fs = combined_from (constant_function zero_ℚ) w fs

-- M f
abbrev pub mapped : Matrix → List Function → List Function
mapped m fs = map (λ row. combined row fs) m

-- the same with no word on order: the constants, and the coefficients of each variable, are M times
-- those of f
pub record IsMapped (m : Matrix) (fs gs : List Function) : Type 0 where
  pub same : gs ≡ mapped m fs
  pub constants : constants gs ≡ applied m (constants fs)
  pub coefficients : (v : Address) → coefficients gs v ≡ applied m (coefficients fs v)
