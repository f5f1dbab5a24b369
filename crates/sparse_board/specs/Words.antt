-- Bits of words.
use Rattle.std.specs.Prelude.{◌≡◌, ℕ, ◌+◌, ◌*◌, ◌/◌, ◌%◌, ◌<◌, List, slice_index, bit_or}
use Rattle.std.specs.Int.{bit_at}

-- bit i of column j, where a column has this number of words
abbrev pub bit_of : List ℕ → ℕ → ℕ → ℕ → ℕ
bit_of words stride j i = bit_at (slice_index words (j * stride + i / 64)) (i % 64)

-- the first n words from place `to` on have the bits of those from place `from` on too
pub record AreJoined (from to n : ℕ) (old new : List ℕ) : Type 0 where
  pub joined : (k : ℕ) → k < n → slice_index new (to + k)
      ≡ bit_or (slice_index old (to + k)) (slice_index old (from + k))
  pub others : (p : ℕ) → ((k : ℕ) → k < n → ¬ (p ≡ to + k)) → slice_index new p
      ≡ slice_index old p

-- of the rows from `start` on, below n, whose bits of a word are set, only those with P lose them
abbrev pub Clears : (ℕ → Type 0) → ℕ → ℕ → ℕ → ℕ → Type 0
Clears P n start word kept =
    (k : ℕ) → k < 64 → start + k < n → bit_at word k ≡ 1 → bit_at kept k ≡ 0 → P (start + k)

-- of the rows from `start` on, below n, those whose bits of a word are set have P
abbrev pub Leaves : (ℕ → Type 0) → ℕ → ℕ → ℕ → Type 0
Leaves P n start word =
    (k : ℕ) → k < 64 → start + k < n → bit_at word k ≡ 1 → P (start + k)
