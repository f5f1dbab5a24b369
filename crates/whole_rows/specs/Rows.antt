-- What a row of whole numbers stands for, and what a pivot makes of it.
use Rattle.std.specs.Prelude.{◌≡◌, ◌≢◌, ℕ, ◌+◌, ◌*◌, ◌^◌, ◌<◌, ◌≤◌, Bool, ◌&&◌, nat_eq, nat_lt, ℤ, pos, ◌*ℤ◌, length, unsigned_abs}
use Rattle.ratio_core.specs.Rational.{Rational, reduce, ◌*ℚ◌, ◌-ℚ◌, ◌/ℚ◌}
use Rattle.whole_rows.specs.declared.narrow_row.NarrowRow.{NarrowRow}
use Rattle.std.specs.Int.{◌∣◌}
use Rattle.whole_rows.specs.declared.plan.Division.{Division}
use Rattle.whole_rows.specs.ColumnMarks.{MarksCover}
use Rattle.whole_rows.specs.Listed.{lowered_once}
use Rattle.whole_rows.specs.Numerators.{numerator, over_left, size_left}

abbrev pub width_of : NarrowRow → ℕ
width_of row = length row.numbers.items

-- the numerator of column j; behind the columns stands the right side
abbrev pub numerator_of : NarrowRow → ℕ → ℤ
numerator_of row j = numerator row.numbers.items row.side j

abbrev pub number_of : NarrowRow → ℕ → Rational
number_of row j = reduce (numerator_of row j) row.den

-- the number of column j, lowered by a multiple of the step's numerator over the row's denominator
abbrev pub lowered_by : NarrowRow → NarrowRow → ℤ → ℕ → Rational
lowered_by step row by j =
    reduce (lowered_once (numerator_of row j) by (numerator_of step j)) row.den

-- the row's bound and its marks allow for numerators that are lowered so
pub record CanLower (step row : NarrowRow) (by : ℤ) : Type 0 where
  pub width : width_of step ≡ width_of row
  pub within : (j : ℕ) → unsigned_abs (numerator_of row j)
      + unsigned_abs by * unsigned_abs (numerator_of step j) ≤ row.bound
  pub covers : MarksCover row.marks.items step.numbers.items

-- each number is lowered by a multiple of the step's, but for a multiple of the numerators
pub record IsNarrowReady (q : ℕ) (step row next : NarrowRow) (by : ℤ) : Type 0 where
  pub width : width_of next ≡ width_of row
  pub left : CanLower step next by
  pub numbers : (j : ℕ) → j < width_of row + 1 →
      lowered_by step next by j ≡ number_of row j -ℚ number_of row q *ℚ number_of step j

-- each number is divided by that of column q
pub record IsNarrowDivided (q : ℕ) (row next : NarrowRow) : Type 0 where
  pub width : width_of next ≡ width_of row
  pub numbers : (j : ℕ) → j < width_of row + 1 →
      number_of next j ≡ number_of row j /ℚ number_of row q

-- the bound and the denominator of the row that is lowered
abbrev pub next_bound : ℕ → NarrowRow → NarrowRow → ℕ
next_bound q step row =
    row.bound * over_left (numerator_of row q) step.den
    + size_left (numerator_of row q) step.den * step.bound

abbrev pub next_den : ℕ → NarrowRow → NarrowRow → ℕ
next_den q step row = row.den * over_left (numerator_of row q) step.den

abbrev pub stays_narrow : ℕ → NarrowRow → NarrowRow → Bool
stays_narrow q step row =
    nat_lt (next_bound q step row) (2 ^ 63) && nat_lt (next_den q step row) (2 ^ 63)

-- the same, of rows of the same columns
abbrev pub can_stay : ℕ → NarrowRow → NarrowRow → Bool
can_stay q step row =
    nat_lt q (width_of row) && nat_eq (width_of step) (width_of row) && stays_narrow q step row

-- the row's denominator and its bound are below 2^31
abbrev pub is_small : NarrowRow → Bool
is_small row = nat_lt row.den (2 ^ 31) && nat_lt row.bound (2 ^ 31)

-- what all numerators of the row are divided by, with the sign of the one of column q
pub record IsDivision (q : ℕ) (row : NarrowRow) (division : Division) : Type 0 where
  pub nonzero : division.by ≢ pos 0
  pub exact : (j : ℕ) → unsigned_abs division.by ∣ unsigned_abs (numerator_of row j)
  pub entry : numerator_of row q ≡ pos division.den *ℤ division.by
  pub above : 0 < division.den
  pub within : (j : ℕ) → unsigned_abs (numerator_of row j) ≤ division.bound * unsigned_abs division.by
  pub small_den : division.den < 2 ^ 63
  pub small_bound : division.bound < 2 ^ 63
