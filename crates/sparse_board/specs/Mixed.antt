-- What a row of whole numbers or of fractions stands for.
use Rattle.std.specs.Prelude.{◌≡◌, ℕ, ◌^◌, ◌<◌, true, false, List, MatchOption, Option, if◌then◌else◌, Bool, not, ◌&&◌, nat_eq, ℤ, pos}
use Rattle.std.specs.Int.{◌∣◌}
use Rattle.ratio_core.specs.Rational.{Rational, ◌*ℚ◌, ◌-ℚ◌}
use Rattle.tableau_core.specs.Row.{cell}
use Rattle.whole_rows.specs.Rows as whole
use Rattle.whole_rows.specs.declared.narrow_row.NarrowRow.{NarrowRow}
use Rattle.whole_rows.specs.declared.plan.LoweringPlan.{LoweringPlan}
use Rattle.whole_rows.specs.Plans.{IsLoweringPlan}
use Rattle.sparse_board.specs.declared.mixed_row.MixedRow.{MixedRow}
use Rattle.sparse_board.specs.declared.sparse_row.SparseRow.{SparseRow}
use Rattle.sparse_board.specs.declared.step.Step.{Step}
use Rattle.sparse_board.specs.Numbers as sparse

-- how many columns there are
abbrev pub width_of : MixedRow → ℕ
width_of row = row.width

-- the number of column j
abbrev pub number_of : MixedRow → ℕ → Rational
number_of row j = if row.is_wide then sparse.number_of row.wide j else whole.number_of row.narrow j

-- the same numbers, in as many columns
pub record IsSame (row next : MixedRow) : Type 0 where
  pub width : width_of next ≡ width_of row
  pub numbers : (j : ℕ) → j < width_of row → number_of next j ≡ number_of row j

-- each number is lowered by a multiple of the units
pub record IsMixedLowered (by : Rational) (units : ℕ → Rational) (row next : MixedRow) : Type 0 where
  pub width : width_of next ≡ width_of row
  pub numbers : (j : ℕ) → j < width_of row → number_of next j ≡ number_of row j -ℚ by *ℚ units j

-- the number of column j of a row that is still to be lowered by a multiple of the step's numerators,
-- if it is of whole numbers
abbrev pub number_left : NarrowRow → MixedRow → ℤ → ℕ → Rational
number_left step row by j =
    if row.is_wide then sparse.number_of row.wide j else whole.lowered_by step row.narrow by j

-- a row of fractions isn't to be lowered so, and one of whole numbers can be
abbrev pub IsLeft : NarrowRow → MixedRow → ℤ → Type 0
IsLeft step row by =
    ¬ (by ≡ pos 0) → (row.is_wide ≡ false) × whole.CanLower step row.narrow by

-- there is a plan by which a row of whole numbers is lowered and stays one, or there is room for its
-- fractions
abbrev pub IsPlanned : ℕ → NarrowRow → MixedRow → Option LoweringPlan → SparseRow → Type 0
IsPlanned q step row plan room =
    MatchOption plan (sparse.width_of room ≡ width_of row) (IsLoweringPlan q step row.narrow)

-- the numbers of a step
abbrev pub units_of : Step → ℕ → Rational
units_of step j =
    if step.is_narrow then whole.number_of step.narrow.row j else sparse.number_of step.wide j

-- a row of whole numbers in this number of columns that are small
abbrev pub is_small : ℕ → MixedRow → Bool
is_small columns row =
    not row.is_wide && nat_eq (whole.width_of row.narrow) columns && whole.is_small row.narrow

-- a step of small whole numbers over 1
abbrev pub is_unit : Step → Bool
is_unit step =
    step.is_narrow && nat_eq step.narrow.row.den 1 && whole.is_small step.narrow.row

-- a row of whole numbers is lowered by whole numbers over 1 and stays one
pub record StaysWhole (q : ℕ) (step : Step) (row : MixedRow) : Type 0 where
  pub narrow : row.is_wide ≡ false
  pub step_narrow : step.is_narrow ≡ true
  pub unit : step.narrow.row.den ≡ 1
  pub column : q < whole.width_of row.narrow
  pub width : whole.width_of step.narrow.row ≡ whole.width_of row.narrow
  pub stays : whole.stays_narrow q step.narrow.row row.narrow ≡ true

-- the fractions of a step, where they are worked out, are its numbers
abbrev pub IsBoth : Step → Type 0
IsBoth step =
    step.is_spread ≡ true → (j : ℕ) → j < step.width
    → sparse.number_of step.wide j ≡ units_of step j

-- a denominator of the first n numbers
pub record IsDenominator (values : List Rational) (n den : ℕ) : Type 0 where
  pub above : 0 < den
  pub small : den < 2 ^ 63
  pub divides : (k : ℕ) → k < n → (cell values k).den ∣ den
