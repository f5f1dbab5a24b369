-- What a board keeps, what is read of it, and what a pivot makes of it.
use Rattle.std.specs.Prelude.{◌≡◌, ℕ, Bool, IsTrue, List, [], length, slice_index_or}
use Rattle.ratio_core.specs.Rational.{Rational}
use Rattle.tableau_core.specs.declared.cost_row.CostRow.{CostRow}
use Rattle.tableau_core.specs.declared.cost_row.CostRow.TheVariants.{First, Second}
use Rattle.tableau_core.specs.Row.{cell}
use Rattle.simplex_form.specs.Basis.{BasisState}
use Rattle.simplex_form.specs.Form.{Form}
use Rattle.simplex_form.specs.Readings.{Agrees, Readings, columns, pivoted_readings, readings}

-- the entries of each row and its right side; the two cost rows, the first while it is in use; and
-- the basic column of each row
pub record BoardContents : Type 0 where
  pub reals : ℕ
  pub rows : List (List Rational)
  pub rights : List Rational
  pub in_first : Bool
  pub first : List Rational
  pub second : List Rational
  pub basis : List ℕ

abbrev pub row_at : BoardContents → ℕ → List Rational
row_at t i = slice_index_or t.rows i []

abbrev pub readings_of : BoardContents → Readings
readings_of t = record {
  rows = length t.rows;
  reals = t.reals;
  entry = λ j i. cell (row_at t i) j;
  right = cell t.rights;
  first_price = cell t.first;
  second_price = cell t.second;
  basis = t.basis;
}

-- the real columns and an artificial one for each row
abbrev pub width : BoardContents → ℕ
width t = columns (readings_of t)

-- the first cost row is in use until the first phase ends
abbrev pub IsInUse : CostRow → BoardContents → Type 0
IsInUse First t = IsTrue t.in_first
IsInUse Second t = Unit {0}

-- the prices of a cost row
abbrev pub prices_of : CostRow → BoardContents → ℕ → Rational
prices_of First t = cell t.first
prices_of Second t = cell t.second

-- a pivot divides row r by its entry of column q, and subtracts from every other row, and from each
-- cost row in use, its entry times the new row r
pub record IsPivoted (r q : ℕ) (before after : BoardContents) : Type 0 where
  pub in_first : after.in_first ≡ before.in_first
  pub readings :
      Agrees before.in_first (readings_of after) (pivoted_readings r q (readings_of before))

-- the board of a form at a basis: the same is read of both
abbrev pub IsBoardOf : Form → BasisState → BoardContents → Type 0
IsBoardOf F s t = Agrees t.in_first (readings_of t) (readings F s)
