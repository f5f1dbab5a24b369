-- The rows of a board: what stands, and what is worked out for the next.
use Rattle.std.specs.Prelude.{◌≡◌, ℕ, ◌<◌, Bool, MatchBool, ◌||◌, nat_eq, List, length, Option, Some, None, slice_get}
use Rattle.ratio_core.specs.Rational.{Rational, zero_ℚ, ◌*ℚ◌, ◌-ℚ◌}
use Rattle.simplex_form.specs.Search.{all_below}
use Rattle.sparse_board.specs.declared.row.Row.{Row}
use Rattle.sparse_board.specs.declared.mixed_row.MixedRow.{MixedRow}
use Rattle.sparse_board.specs.declared.step.Step.{Step}
use Rattle.sparse_board.specs.Mixed.{IsLeft, StaysWhole, number_of, width_of}
use Rattle.tableau_core.specs.BoardNumbers.{BoardNumbers, differences_fit}
use Rattle.sparse_board.specs.Lowering.{IsMixedPrepared}

abbrev pub now_of : Option Row → Option MixedRow
now_of None = None
now_of (Some row) = Some row.now

-- what stands in row i
abbrev pub now_at : List Row → ℕ → Option MixedRow
now_at rows i = now_of (slice_get rows i)

abbrev pub numbers : Option MixedRow → ℕ → Rational
numbers None j = zero_ℚ
numbers (Some row) j = number_of row j

abbrev pub width_at : Option MixedRow → ℕ
width_at None = 0
width_at (Some row) = width_of row

-- the number of column j in row i
abbrev pub number_in_row : List Row → ℕ → ℕ → Rational
number_in_row rows i j = numbers (now_at rows i) j

-- the numbers of the rows, each of which ends with its right side, and of the two cost rows
abbrev pub numbers_in : List Row → MixedRow → MixedRow → BoardNumbers
numbers_in rows first second = record {
  rows = length rows;
  number = number_in_row rows;
  first = number_of first;
  second = number_of second;
}

-- each row has w columns
abbrev pub AreSparseRowsWide : ℕ → List Row → Type 0
AreSparseRowsWide w rows = (i : ℕ) → i < length rows → width_at (now_at rows i) ≡ w

abbrev pub SameNow : List Row → List Row → Type 0
SameNow old new = (i : ℕ) → now_at new i ≡ now_at old i

-- each product and difference of the rows other than r fits
abbrev pub rows_fit : ℕ → ℕ → ℕ → (ℕ → Rational) → List Row → Bool
rows_fit w r q units rows =
    all_below (length rows)
    (λ i. nat_eq i r || differences_fit w (number_in_row rows i) (number_in_row rows i q) units)

abbrev pub StaysWholeAt : ℕ → Step → Option MixedRow → Type 0
StaysWholeAt q step None = Unit {0}
StaysWholeAt q step (Some row) = StaysWhole q step row

-- nothing is worked out of a row that is known to stay one of whole numbers
abbrev pub IsPreparedAt : ℕ → Step → Option Row → Type 0
IsPreparedAt q step None = Unit {0}
IsPreparedAt q step (Some row) =
    MatchBool step.all_stay (StaysWhole q step row.now) (IsMixedPrepared q step row)

-- the rows other than r are lowered
abbrev pub AreSparseRowsLowered : ℕ → ℕ → (ℕ → Rational) → List Row → List Row → Type 0
AreSparseRowsLowered r q units before after =
    (i : ℕ) → i < length before → ¬ (i ≡ r) → (j : ℕ) → j < width_at (now_at before i) →
    number_in_row after i j ≡ number_in_row before i j -ℚ number_in_row before i q *ℚ units j

abbrev pub SameWidths : List Row → List Row → Type 0
SameWidths old new = (i : ℕ) → width_at (now_at new i) ≡ width_at (now_at old i)

-- both are rows, of which this holds
abbrev pub OnRows : (Row → Row → Type 0) → Option Row → Option Row → Type 0
OnRows P None next = ⊥
OnRows P (Some row) None = ⊥
OnRows P (Some row) (Some next) = P row next

abbrev pub IsStepLeftAt : Step → Option Row → Type 0
IsStepLeftAt step None = Unit {0}
IsStepLeftAt step (Some row) = IsLeft step.narrow.row row.now row.left
