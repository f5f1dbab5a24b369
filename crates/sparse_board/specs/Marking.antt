-- Marks of the numbers that may differ from 0: each other number is 0.
use Rattle.std.specs.Prelude.{◌≡◌, ℕ, ◌+◌, ◌/◌, ◌%◌, ◌<◌, true, false, List, length}
use Rattle.std.specs.Int.{bit_at}
use Rattle.ratio_core.specs.Rational.{Rational, zero_ℚ}
use Rattle.sparse_board.specs.declared.marks.Marks.{Marks}
use Rattle.sparse_board.specs.declared.row.Row.{Row}
use Rattle.sparse_board.specs.declared.mixed_row.MixedRow.{MixedRow}
use Rattle.sparse_board.specs.Marks.{SameSizes, has}
use Rattle.sparse_board.specs.Mixed.{number_of, width_of}
use Rattle.sparse_board.specs.Rows.{number_in_row}

-- each of the w numbers of row i is marked or 0
abbrev pub MarksNumbers : ℕ → (ℕ → Rational) → ℕ → Marks → Type 0
MarksNumbers w numbers i marks = (j : ℕ) → j < w → has marks j i ≡ false → numbers j ≡ zero_ℚ

-- of the w columns those of a word's bits, whose first is of column `start`, are marked in row i
abbrev pub AreBitsMarked : ℕ → ℕ → ℕ → ℕ → Marks → Type 0
AreBitsMarked word start i w marks =
    (b : ℕ) → b < 64 → bit_at word b ≡ 1 → start + b < w → has marks (start + b) i ≡ true

abbrev pub MarksRow : MixedRow → ℕ → Marks → Type 0
MarksRow row i marks = MarksNumbers (width_of row) (number_of row) i marks

-- each number of the rows, in w columns, is marked or 0
abbrev pub AreNumbersMarked : ℕ → Marks → List Row → Type 0
AreNumbersMarked w marks rows =
    (i : ℕ) → i < length rows → (j : ℕ) → j < w → has marks j i ≡ false
    → number_in_row rows i j ≡ zero_ℚ

-- what is marked stays so
pub record KeepMarks (old new : Marks) : Type 0 where
  pub sizes : SameSizes old new
  pub kept : (j i : ℕ) → has old j i ≡ true → has new j i ≡ true

-- in a row that was marked in column q each of the w units is marked or 0
abbrev pub MarksUnits : ℕ → ℕ → (ℕ → Rational) → Marks → Marks → Type 0
MarksUnits w q units old new =
    (i : ℕ) → has old q i ≡ true → (j : ℕ) → j < w → has new j i ≡ false → units j ≡ zero_ℚ

-- in the rows of a word's bits, which is the k-th of a column, each of the w units is marked or 0
abbrev pub MarksWord : ℕ → ℕ → ℕ → (ℕ → Rational) → Marks → Type 0
MarksWord w k word units marks =
    (i : ℕ) → i < marks.rows → i / 64 ≡ k → bit_at word (i % 64) ≡ 1
    → MarksNumbers w units i marks
