-- A board's numbers by row and column, in whatever way they are kept, and what a pivot makes of
-- them.
use Rattle.std.specs.Prelude.{◌≡◌, ℕ, ◌+◌, ◌<◌, Bool, ◌&&◌, ◌||◌, not, nat_eq, IsTrue, List}
use Rattle.ratio_core.specs.Rational.{Rational, fits, ◌*ℚ◌, ◌-ℚ◌, ◌/ℚ◌}
use Rattle.simplex_form.specs.Fit.{lowered_fits}
use Rattle.simplex_form.specs.Readings.{Readings}
use Rattle.simplex_form.specs.Search.{all_below}

-- how many rows there are; the j-th number of row i, whose right side stands behind its columns;
-- and the prices of the two cost rows
pub record BoardNumbers : Type 0 where
  pub rows : ℕ
  pub number : ℕ → ℕ → Rational
  pub first : ℕ → Rational
  pub second : ℕ → Rational

-- what is read of them, where there are c real columns
abbrev pub kept_readings : ℕ → List ℕ → BoardNumbers → Readings
kept_readings c basis K = record {
  rows = K.rows;
  reals = c;
  entry = λ j i. K.number i j;
  right = λ i. K.number i (c + K.rows);
  first_price = K.first;
  second_price = K.second;
  basis = basis;
}

-- ---- a pivot of rows with w columns

-- the j-th number of row r divided by its entry of column q
abbrev pub quotient_at : (ℕ → ℕ → Rational) → ℕ → ℕ → ℕ → Rational
quotient_at row r q j = row r j /ℚ row r q

-- each number is lowered by a multiple of the units
abbrev pub AreLess : ℕ → ℕ → (ℕ → Rational) → (ℕ → Rational) → (ℕ → Rational) → Type 0
AreLess w q units before after =
    (j : ℕ) → j < w → after j ≡ before j -ℚ before q *ℚ units j

-- the rows and the cost rows in use after the pivot
pub record IsSettled (w r q : ℕ) (in_first : Bool) (before after : BoardNumbers) : Type 0 where
  pub divided : (j : ℕ) → j < w + 1 → after.number r j ≡ quotient_at before.number r q j
  pub others : (i : ℕ) → i < before.rows → ¬ (i ≡ r) →
      AreLess (w + 1) q (after.number r) (before.number i) (after.number i)
  pub first_lowered : IsTrue in_first → AreLess w q (after.number r) before.first after.first
  pub second_lowered : AreLess w q (after.number r) before.second after.second

-- ---- the tests of a pivot

-- each quotient of w numbers fits
abbrev pub quotients_fit : ℕ → (ℕ → Rational) → Rational → Bool
quotients_fit w numbers by = all_below w (λ j. fits (numbers j /ℚ by))

-- each product and difference fits of w numbers that are lowered by a multiple of the units
abbrev pub differences_fit : ℕ → (ℕ → Rational) → Rational → (ℕ → Rational) → Bool
differences_fit w numbers by units = all_below w (λ j. lowered_fits (numbers j) by (units j))

-- of the rows other than r
abbrev pub others_fit : ℕ → ℕ → ℕ → BoardNumbers → (ℕ → Rational) → Bool
others_fit w r q K units =
    all_below K.rows
    (λ i. nat_eq i r || differences_fit (w + 1) (K.number i) (K.number i q) units)

-- of the cost rows in use
abbrev pub costs_fit :
    ℕ → ℕ → Bool → (ℕ → Rational) → (ℕ → Rational) → (ℕ → Rational) → Bool
costs_fit w q in_first first second units =
    (not in_first || differences_fit w first (first q) units)
    && differences_fit w second (second q) units

-- each quotient, product and difference of the pivot fits
abbrev pub numbers_fit : ℕ → ℕ → ℕ → Bool → BoardNumbers → Bool
numbers_fit w r q in_first K =
    quotients_fit (w + 1) (K.number r) (K.number r q)
    && (others_fit w r q K (quotient_at K.number r q)
    && costs_fit w q in_first K.first K.second (quotient_at K.number r q))
