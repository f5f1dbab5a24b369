-- Marks of columns as bits of words, set where a number may differ from 0.
use Rattle.std.specs.Prelude.{◌≡◌, ℕ, ◌+◌, ◌/◌, ◌%◌, ◌<◌, ◌≤◌, List, length, max, slice_index, slice_index_or, ℤ, pos, ◌*ℤ◌}
use Rattle.std.specs.Int.{bit_at}

-- how many words n columns have
abbrev pub words_of : ℕ → ℕ
words_of width = width / 64 + 1

-- the mark of column j: 1 where it is set, or 0
abbrev pub mark_of : List ℕ → ℕ → ℕ
mark_of marks j = bit_at (slice_index marks (j / 64)) (j % 64)

-- each number is marked or 0, and each mark is of a number
pub record MarksCover (marks : List ℕ) (numbers : List ℤ) : Type 0 where
  pub unmarked : (j : ℕ) → mark_of marks j ≡ 0 → slice_index_or numbers j (pos 0) ≡ pos 0
  pub within : (j : ℕ) → mark_of marks j ≡ 1 → j < length numbers

-- the same of the columns of a word, whose first bit is of column `start`
pub record WordCovers (word start : ℕ) (numbers : List ℤ) : Type 0 where
  pub unset : (i : ℕ) → i < 64 → bit_at word i ≡ 0
      → slice_index_or numbers (start + i) (pos 0) ≡ pos 0
  pub within : (i : ℕ) → i < 64 → bit_at word i ≡ 1 → start + i < length numbers

-- column j is marked, and each other is as it was
pub record IsColumnMarked (j : ℕ) (old new : List ℕ) : Type 0 where
  pub long : length new ≡ length old
  pub here : mark_of new j ≡ 1
  pub others : (i : ℕ) → ¬ (i ≡ j) → mark_of new i ≡ mark_of old i

-- each column is marked where it was, or where another row has it marked
pub record AreMarksJoined (added old new : List ℕ) : Type 0 where
  pub long : length new ≡ length old
  pub marks : (j : ℕ) → mark_of new j ≡ max (mark_of old j) (mark_of added j)

-- the numbers of the 64 columns from `start` on are changed to such, and each other is as it was
pub record IsWordChanged (P : ℕ → ℤ → Type 0) (start : ℕ) (old new : List ℤ) : Type 0 where
  pub long : length new ≡ length old
  pub changed : (i : ℕ) → i < 64 → P (start + i) (slice_index_or new (start + i) (pos 0))
  pub before : (j : ℕ) → j < start → slice_index_or new j (pos 0) ≡ slice_index_or old j (pos 0)
  pub after : (j : ℕ) → start + 64 ≤ j →
      slice_index_or new j (pos 0) ≡ slice_index_or old j (pos 0)

-- the numbers of the columns from `start` up to `end` are changed to such, and each other is as it was
pub record IsRangeChanged (P : ℕ → ℤ → Type 0) (start end : ℕ) (old new : List ℤ) : Type 0 where
  pub long : length new ≡ length old
  pub changed : (j : ℕ) → start ≤ j → j < end → P j (slice_index_or new j (pos 0))
  pub before : (j : ℕ) → j < start → slice_index_or new j (pos 0) ≡ slice_index_or old j (pos 0)
  pub after : (j : ℕ) → end ≤ j → slice_index_or new j (pos 0) ≡ slice_index_or old j (pos 0)

-- the first n numbers are multiplied, and each other is as it was
pub record AreScaled (over : ℤ) (n : ℕ) (old new : List ℤ) : Type 0 where
  pub long : length new ≡ length old
  pub scaled : (j : ℕ) → j < n →
      slice_index_or new j (pos 0) ≡ slice_index_or old j (pos 0) *ℤ over
  pub others : (j : ℕ) → n ≤ j → slice_index_or new j (pos 0) ≡ slice_index_or old j (pos 0)
