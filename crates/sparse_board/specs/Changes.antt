-- The rows that a pivot changes, in a list's first places.
use Rattle.std.specs.Prelude.{◌≡◌, ℕ, ◌<◌, ◌≤◌, ◌⊎◌, List, length, slice_get, slice_index}
use Rattle.ratio_core.specs.Rational.{zero_ℚ}
use Rattle.sparse_board.specs.declared.row.Row.{Row}
use Rattle.sparse_board.specs.declared.step.Step.{Step}
use Rattle.sparse_board.specs.Rows.{IsPreparedAt, IsStepLeftAt, OnRows, StaysWholeAt, now_at, number_in_row}

-- the first `count` are numbers below n, rising
pub record AreRowsListed (n : ℕ) (items : List ℕ) (count : ℕ) : Type 0 where
  pub within : (k : ℕ) → k < count → slice_index items k < n
  pub rising : (k l : ℕ) → k < l → l < count → slice_index items k < slice_index items l

-- they are rows other than r, among them each whose number of column q isn't 0
pub record ListsChanges (rows : List Row) (r q : ℕ) (items : List ℕ) (count : ℕ) : Type 0 where
  pub listed : AreRowsListed (length rows) items count
  pub others : (k : ℕ) → k < count → ¬ (slice_index items k ≡ r)
  pub passed : (i : ℕ) → i < length rows → ¬ (i ≡ r)
      → ((k : ℕ) → k < count → ¬ (slice_index items k ≡ i)) → number_in_row rows i q ≡ zero_ℚ

-- of the rows below i those are noted
pub record AreChangesNoted (rows : List Row) (r q : ℕ) (items : List ℕ) (count i : ℕ) : Type 0
  where
    pub few : count ≤ i
    pub row_end : i ≤ length rows
    pub room : length items ≡ length rows
    pub within : (k : ℕ) → k < count → slice_index items k < i
    pub rising : (k l : ℕ) → k < l → l < count → slice_index items k < slice_index items l
    pub others : (k : ℕ) → k < count → ¬ (slice_index items k ≡ r)
    pub found : (j : ℕ) → j < i → ¬ (j ≡ r) → (number_in_row rows j q ≡ zero_ℚ)
        ⊎ ((k : ℕ) × (k < count) × (slice_index items k ≡ j))

-- each of them is known to stay a row of whole numbers
abbrev pub AllStay : ℕ → Step → List ℕ → ℕ → List Row → Type 0
AllStay q step items count rows =
    (k : ℕ) → k < count → StaysWholeAt q step (now_at rows (slice_index items k))

-- each of them is worked out
abbrev pub AreChangesPrepared : ℕ → Step → List ℕ → ℕ → List Row → Type 0
AreChangesPrepared q step items count rows =
    (k : ℕ) → k < count → IsPreparedAt q step (slice_get rows (slice_index items k))

-- they are changed so, and each other row stays
pub record AreChanged (P : Row → Row → Type 0) (items : List ℕ) (count : ℕ)
    (before after : List Row) : Type 0 where
  pub changed : (k : ℕ) → k < count
      → OnRows P (slice_get before (slice_index items k)) (slice_get after (slice_index items k))
  pub others : (i : ℕ) → ((k : ℕ) → k < count → ¬ (slice_index items k ≡ i))
      → slice_get after i ≡ slice_get before i

-- each of them can be lowered by what is left
abbrev pub AreLeft : Step → List ℕ → ℕ → List Row → Type 0
AreLeft step items count rows =
    (k : ℕ) → k < count → IsStepLeftAt step (slice_get rows (slice_index items k))
