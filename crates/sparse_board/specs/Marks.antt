-- Marks of rows in columns.
use Rattle.std.specs.Prelude.{◌≡◌, ℕ, ◌/◌, ◌%◌, ◌<◌, Bool, ◌&&◌, ◌||◌, nat_eq, nat_lt}
use Rattle.sparse_board.specs.declared.marks.Marks.{Marks}
use Rattle.std.specs.Int.{bit_at}
use Rattle.sparse_board.specs.Words.{bit_of}

-- row i is marked in column j
unfoldable pub has : Marks → ℕ → ℕ → Bool
has marks j i = nat_lt i marks.rows && nat_eq (bit_of marks.words.items marks.stride j i) 1

-- as many columns and rows
pub record SameSizes (old new : Marks) : Type 0 where
  pub columns : new.columns ≡ old.columns
  pub rows : new.rows ≡ old.rows

-- row i is marked in column j now, or it isn't, and all other marks stay
pub record IsPut (j i : ℕ) (mark : Bool) (old new : Marks) : Type 0 where
  pub sizes : SameSizes old new
  pub here : has new j i ≡ mark
  pub others : (l k : ℕ) → ¬ ((l ≡ j) × (k ≡ i)) → has new l k ≡ has old l k

-- a column is marked where it or another was, and all other marks stay
pub record IsJoined (from to : ℕ) (old new : Marks) : Type 0 where
  pub sizes : SameSizes old new
  pub here : (i : ℕ) → has new to i ≡ (has old to i || has old from i)
  pub others : (j i : ℕ) → ¬ (j ≡ to) → has new j i ≡ has old j i

-- a column is marked in the rows of a word's bits, which is the k-th of a column, and all other
-- marks stay
pub record IsWordJoined (j k word : ℕ) (old new : Marks) : Type 0 where
  pub sizes : SameSizes old new
  pub here : (i : ℕ) → i < old.rows → i / 64 ≡ k
      → has new j i ≡ (has old j i || nat_eq (bit_at word (i % 64)) 1)
  pub others : (l i : ℕ) → ¬ ((l ≡ j) × (i / 64 ≡ k)) → has new l i ≡ has old l i

-- the rows of the k-th word of column j are marked as its bits are set
abbrev pub IsWord : ℕ → ℕ → ℕ → Marks → Type 0
IsWord j k word marks =
    (i : ℕ) → i < marks.rows → i / 64 ≡ k → has marks j i ≡ nat_eq (bit_at word (i % 64)) 1

-- the same now, and all other marks stay
pub record IsWordPut (j k word : ℕ) (old new : Marks) : Type 0 where
  pub sizes : SameSizes old new
  pub here : IsWord j k word new
  pub others : (l i : ℕ) → ¬ ((l ≡ j) × (i / 64 ≡ k)) → has new l i ≡ has old l i
