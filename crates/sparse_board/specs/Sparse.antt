-- What numbers by column stand for, where only those that aren't 0 are kept.
use Rattle.std.specs.Prelude.{◌≡◌, ℕ, zero, suc, ◌<◌, ◌≤◌, nat_eq, List, length, map, slice_index, if◌then◌else◌}
use Rattle.ratio_core.specs.Rational.{Rational, zero_ℚ}
use Rattle.tableau_core.specs.Row.{AllFit, cell}
use Rattle.sparse_board.specs.declared.entry.Entry.{Entry}

abbrev pub columns_in : List Entry → List ℕ
columns_in entries = map (λ entry. entry.column) entries

abbrev pub values_in : List Entry → List Rational
values_in entries = map (λ entry. entry.value) entries

-- the number of column j, which stands beside it among the first n, or else 0
abbrev pub number_at : List ℕ → List Rational → ℕ → ℕ → Rational
number_at columns values zero j = zero_ℚ
number_at columns values (suc n) j =
    if nat_eq (slice_index columns n) j then cell values n else number_at columns values n j

-- the number of column j
unfoldable pub number_in : List ℕ → List Rational → ℕ → Rational
number_in columns values j = number_at columns values (length columns) j

-- each column has a number that isn't 0 and fits, and the columns rise
pub record IsSparse (columns : List ℕ) (values : List Rational) : Type 0 where
  pub long : length values ≡ length columns
  pub rising : (i k : ℕ) → i < k → k < length columns →
      slice_index columns i < slice_index columns k
  pub others : (k : ℕ) → k < length columns → ¬ (cell values k ≡ zero_ℚ)
  pub fit : AllFit values

-- each column is below b
abbrev pub AreColumnsBelow : ℕ → List ℕ → Type 0
AreColumnsBelow b columns = (k : ℕ) → k < length columns → slice_index columns k < b

-- the first i columns are those below b
pub record AreColumnsSplit (b i : ℕ) (columns : List ℕ) : Type 0 where
  pub within : i ≤ length columns
  pub before : (k : ℕ) → k < i → slice_index columns k < b
  pub after : (k : ℕ) → i ≤ k → k < length columns → b ≤ slice_index columns k

-- the number of column j
abbrev pub number_among : List Entry → ℕ → Rational
number_among entries = number_in (columns_in entries) (values_in entries)

-- numbers by column, in w columns
pub record AreUnits (w : ℕ) (units : List Entry) : Type 0 where
  pub sparse : IsSparse (columns_in units) (values_in units)
  pub within : AreColumnsBelow w (columns_in units)
