-- What Bland's rule and the tests of a pivot read, of a form at a basis and of a board alike.
use Rattle.std.specs.Prelude.{◌≡◌, ℕ, ◌+◌, ◌<◌, Bool, IsTrue, List, slice_index, slice_set}
use Rattle.ratio_core.specs.Rational.{Rational, ◌*ℚ◌, ◌-ℚ◌, ◌/ℚ◌}
use Rattle.simplex_form.specs.Form.{Form, first_cost, second_cost}
use Rattle.simplex_form.specs.Basis.{BasisState, pivoted}
use Rattle.simplex_form.specs.Board as board

-- the sizes; the entry of each column in each row; the right side of each row; the price of each
-- column in the first phase and in the second; and the basic column of each row
pub record Readings : Type 0 where
  pub rows : ℕ
  pub reals : ℕ
  pub entry : ℕ → ℕ → Rational
  pub right : ℕ → Rational
  pub first_price : ℕ → Rational
  pub second_price : ℕ → Rational
  pub basis : List ℕ

-- the real columns and then the artificial ones, one a row
abbrev pub columns : Readings → ℕ
columns R = R.reals + R.rows

-- the basic column of row i
abbrev pub basic_at : Readings → ℕ → ℕ
basic_at R i = slice_index R.basis i

-- what is read of a form at a basis
abbrev pub readings : Form → BasisState → Readings
readings F s = record {
  rows = F.rows;
  reals = F.reals;
  entry = board.entry F s;
  right = board.right_side F s;
  first_price = board.price F s (first_cost F);
  second_price = board.price F s (second_cost F);
  basis = s.basis;
}

-- the j-th number of row r divided by its entry of column q
abbrev pub quotient : Readings → ℕ → ℕ → ℕ → Rational
quotient R r q j = R.entry j r /ℚ R.entry q r

-- a pivot lowers a price by the entering column's price times the quotient
abbrev pub lowered_price : Readings → (ℕ → Rational) → ℕ → ℕ → ℕ → Rational
lowered_price R price r q j = price j -ℚ price q *ℚ quotient R r q j

-- what is read after column q has entered in row r
abbrev pub pivoted_readings : ℕ → ℕ → Readings → Readings
pivoted_readings r q R = record {
  rows = R.rows;
  reals = R.reals;
  entry = λ j. pivoted r (R.entry q) (R.entry j);
  right = pivoted r (R.entry q) R.right;
  first_price = lowered_price R R.first_price r q;
  second_price = lowered_price R R.second_price r q;
  basis = slice_set R.basis r q;
}

-- the same is read below the sizes, of the first prices where they are in use
pub record Agrees (in_first : Bool) (R S : Readings) : Type 0 where
  pub rows : R.rows ≡ S.rows
  pub reals : R.reals ≡ S.reals
  pub basis : R.basis ≡ S.basis
  pub entries : (i j : ℕ) → i < S.rows → j < columns S → R.entry j i ≡ S.entry j i
  pub rights : (i : ℕ) → i < S.rows → R.right i ≡ S.right i
  pub first : IsTrue in_first → (j : ℕ) → j < columns S → R.first_price j ≡ S.first_price j
  pub second : (j : ℕ) → j < columns S → R.second_price j ≡ S.second_price j
