-- The lists that are read off the board.
use Rattle.std.specs.Prelude.{ℕ, ◌+◌, List}
use Rattle.ratio_core.specs.Rational.{Rational, ◌‹ℚ◌, zero_ℚ}
use Rattle.simplex_form.specs.Form.{Form, second_cost}
use Rattle.simplex_form.specs.Basis.{BasisState, IsBasis}
use Rattle.simplex_form.specs.Board.{point, price, ray}
use Rattle.simplex_form.specs.Readings.{Readings}
use Rattle.tableau_core.specs.Start.{IsListOf}
use Rattle.tableau_core.specs.BoardContents.{IsBoardOf, BoardContents}

-- the point of each form and basis whose board it is
abbrev pub GivesPoint : BoardContents → List Rational → Type 0
GivesPoint t x =
    (F : Form) (s : BasisState) → IsBasis F s → IsBoardOf F s t → IsListOf F.reals (point F s) x

-- and the ray of a column of negative price
abbrev pub GivesRay : ℕ → BoardContents → List Rational → Type 0
GivesRay q t d =
    (F : Form) (s : BasisState) → IsBasis F s → IsBoardOf F s t
    → price F s (second_cost F) q ‹ℚ zero_ℚ → IsListOf F.reals (ray F s q) d

-- of the prices, that of row k's artificial column
abbrev pub artificial : (ℕ → Rational) → Readings → ℕ → Rational
artificial price R k = price (R.reals + k)
