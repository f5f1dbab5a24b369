-- What a pivot makes of a row.
use Rattle.std.specs.Prelude.{◌≡◌, ℕ, ◌<◌, ◌&&◌, not, MatchBool}
use Rattle.ratio_core.specs.Rational.{Rational, zero_ℚ, ◌*ℚ◌, ◌-ℚ◌, ◌/ℚ◌}
use Rattle.sparse_board.specs.declared.row.Row.{Row}
use Rattle.sparse_board.specs.declared.mixed_row.MixedRow.{MixedRow}
use Rattle.sparse_board.specs.declared.sparse_row.SparseRow.{SparseRow}
use Rattle.sparse_board.specs.declared.step.Step.{Step}
use Rattle.sparse_board.specs.Numbers.{number_of, width_of}
use Rattle.sparse_board.specs.Mixed as mixed

-- each number is divided
pub record IsSparseDivided (by : Rational) (row next : SparseRow) : Type 0 where
  pub width : width_of next ≡ width_of row
  pub numbers : (j : ℕ) → j < width_of row → number_of next j ≡ number_of row j /ℚ by

-- each number is lowered by a multiple of the units
pub record IsSparseLowered (by : Rational) (units : ℕ → Rational) (row next : SparseRow) : Type 0 where
  pub width : width_of next ≡ width_of row
  pub numbers : (j : ℕ) → j < width_of row → number_of next j ≡ number_of row j -ℚ by *ℚ units j

-- each number is lowered by a multiple of the units, in fractions beside the row
pub record IsMixedLoweredBeside (by : Rational) (units : ℕ → Rational) (row : MixedRow)
    (next : SparseRow) : Type 0 where
  pub width : width_of next ≡ mixed.width_of row
  pub numbers : (j : ℕ) → j < mixed.width_of row →
      number_of next j ≡ mixed.number_of row j -ℚ by *ℚ units j

-- a row of whole numbers is planned for such a step
abbrev pub IsRowPlanned : ℕ → Step → Row → Type 0
IsRowPlanned q step row = mixed.IsPlanned q step.narrow.row row.now row.plan row.next

-- the next row is worked out, or the row's entry of column q is 0, so that it stays; a row of whole
-- numbers is lowered in place where the step is one
abbrev pub IsMixedPrepared : ℕ → Step → Row → Type 0
IsMixedPrepared q step row =
    MatchBool (not row.now.is_wide && step.is_narrow)
    (IsRowPlanned q step row)
    (MatchBool row.changes
    (IsMixedLoweredBeside (mixed.number_of row.now q) (mixed.units_of step) row.now row.next)
    (mixed.number_of row.now q ≡ zero_ℚ))

-- the row is lowered by its number of column q times the step, but for a multiple of the step
pub record IsMixedReady (q : ℕ) (step : Step) (row next : Row) : Type 0 where
  pub width : mixed.width_of next.now ≡ mixed.width_of row.now
  pub left : mixed.IsLeft step.narrow.row next.now next.left
  pub numbers : (j : ℕ) → j < mixed.width_of row.now →
      mixed.number_left step.narrow.row next.now next.left j
      ≡ mixed.number_of row.now j -ℚ mixed.number_of row.now q *ℚ mixed.units_of step j

-- the row is lowered by the multiple of the step that was left
pub record IsFinished (step : Step) (row next : Row) : Type 0 where
  pub width : mixed.width_of next.now ≡ mixed.width_of row.now
  pub numbers : (j : ℕ) → j < mixed.width_of row.now →
      mixed.number_of next.now j ≡ mixed.number_left step.narrow.row row.now row.left j
