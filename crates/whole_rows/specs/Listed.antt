-- The columns where a row isn't 0, and numerators that are lowered there alone.
use Rattle.std.specs.Prelude.{◌≡◌, ℕ, ◌<◌, ◌≤◌, ◌⊎◌, List, length, slice_index, slice_index_or, ℤ, pos, ◌+ℤ◌, ◌*ℤ◌, neg_ℤ}

-- these are the columns of the numbers that aren't 0, rising
pub record ListsNonzeros (columns : List ℕ) (numbers : List ℤ) : Type 0 where
  pub within : (k : ℕ) → k < length columns → slice_index columns k < length numbers
  pub rising : (k l : ℕ) → k < l → l < length columns →
      slice_index columns k < slice_index columns l
  pub nonzero : (k : ℕ) → k < length columns →
      ¬ (slice_index_or numbers (slice_index columns k) (pos 0) ≡ pos 0)
  pub others : (j : ℕ) → j < length numbers →
      ((k : ℕ) → k < length columns → ¬ (slice_index columns k ≡ j)) →
      slice_index_or numbers j (pos 0) ≡ pos 0

-- each number is 0
abbrev pub AreZeros : List ℤ → Type 0
AreZeros numbers = (j : ℕ) → slice_index_or numbers j (pos 0) ≡ pos 0

abbrev pub lowered_once : ℤ → ℤ → ℤ → ℤ
lowered_once N b n = N +ℤ neg_ℤ (b *ℤ n)

-- the numbers at the first n columns are lowered, and each other is as it was
pub record IsLoweredAt (by : ℤ) (columns : List ℕ) (step : List ℤ) (n : ℕ) (old new : List ℤ) :
    Type 0 where
  pub long : length new ≡ length old
  pub lowered : (k : ℕ) → k < n →
      slice_index_or new (slice_index columns k) (pos 0)
      ≡ lowered_once (slice_index_or old (slice_index columns k) (pos 0)) by
      (slice_index_or step (slice_index columns k) (pos 0))
  pub others : (j : ℕ) → ((k : ℕ) → k < n → ¬ (slice_index columns k ≡ j)) →
      slice_index_or new j (pos 0) ≡ slice_index_or old j (pos 0)

-- of the numbers below j those that aren't 0 are noted
pub record IsNotedTo (numbers : List ℤ) (columns : List ℕ) (used j : ℕ) : Type 0 where
  pub few : used ≤ j
  pub row_end : j ≤ length numbers
  pub room : length numbers ≤ length columns
  pub within : (k : ℕ) → k < used → slice_index columns k < j
  pub rising : (k l : ℕ) → k < l → l < used → slice_index columns k < slice_index columns l
  pub nonzero : (k : ℕ) → k < used
      → ¬ (slice_index_or numbers (slice_index columns k) (pos 0) ≡ pos 0)
  pub found : (i : ℕ) → i < j → (slice_index_or numbers i (pos 0) ≡ pos 0)
      ⊎ ((k : ℕ) × (k < used) × (slice_index columns k ≡ i))
