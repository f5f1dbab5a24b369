-- What a sparse row stands for.
use Rattle.std.specs.Prelude.{◌≡◌, ℕ, ◌+◌, ◌<◌, ◌≤◌, List, vec_capacity}
use Rattle.ratio_core.specs.Rational.{Rational}
use Rattle.sparse_board.specs.declared.sparse_row.SparseRow.{SparseRow}
use Rattle.sparse_board.specs.Sparse.{AreColumnsBelow, AreColumnsSplit, columns_in, number_in, values_in}

abbrev pub row_columns : SparseRow → List ℕ
row_columns row = columns_in row.entries.items

abbrev pub row_values : SparseRow → List Rational
row_values row = values_in row.entries.items

-- the number of column j
abbrev pub number_of : SparseRow → ℕ → Rational
number_of row j = number_in (row_columns row) (row_values row) j

-- how many columns there are: there is room for a number in each
abbrev pub width_of : SparseRow → ℕ
width_of row = vec_capacity row.entries

-- a column has its number now, which is the last, and each other column the same
pub record AppendsNumber (column : ℕ) (value : Rational) (old new : SparseRow) : Type 0 where
  pub width : width_of new ≡ width_of old
  pub below : AreColumnsBelow (column + 1) (row_columns new)
  pub here : number_of new column ≡ value
  pub elsewhere : (j : ℕ) → ¬ (j ≡ column) → number_of new j ≡ number_of old j

-- the columns below b have the numbers h, and no other column has one
pub record HoldsBelow (b : ℕ) (h : ℕ → Rational) (row : SparseRow) : Type 0 where
  pub below : AreColumnsBelow b (row_columns row)
  pub numbers : (j : ℕ) → j < b → number_of row j ≡ h j

-- what is written is of columns before the row's i-th, and before the column
abbrev pub IsReadyAt : ℕ → SparseRow → ℕ → SparseRow → Type 0
IsReadyAt column row i next =
    (b : ℕ) × (b ≤ column) × AreColumnsSplit b i (row_columns row) × AreColumnsBelow b (row_columns next)

-- numbers that are held below a column b, and from there on are the row's up to `column` and
-- `value` there, are held up to `column`
abbrev pub CopiesTo : SparseRow → ℕ → ℕ → Rational → SparseRow → SparseRow → Type 0
CopiesTo row i column value old new =
    (b : ℕ) (h : ℕ → Rational) → b ≤ column → AreColumnsSplit b i (row_columns row) → HoldsBelow b h old
    → ((j : ℕ) → b ≤ j → j < column → h j ≡ number_of row j) → h column ≡ value
    → HoldsBelow (column + 1) h new

-- the same below `column` alone
abbrev pub Copies : SparseRow → ℕ → ℕ → SparseRow → SparseRow → Type 0
Copies row i column old new =
    (b : ℕ) (h : ℕ → Rational) → b ≤ column → AreColumnsSplit b i (row_columns row) → HoldsBelow b h old
    → ((j : ℕ) → b ≤ j → j < column → h j ≡ number_of row j) → HoldsBelow column h new
