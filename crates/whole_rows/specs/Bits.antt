-- Bits of words.
use Rattle.std.specs.Prelude.{◌≡◌, ℕ, ◌<◌}
use Rattle.std.specs.Int.{bit_at}

-- bit k is the lowest that is set
pub record IsLowestBit (word k : ℕ) : Type 0 where
  pub within : k < 64
  pub set : bit_at word k ≡ 1
  pub below : (i : ℕ) → i < k → bit_at word i ≡ 0

-- bit k is cleared, and each other is as it was
pub record IsBitCleared (k old new : ℕ) : Type 0 where
  pub here : bit_at new k ≡ 0
  pub others : (i : ℕ) → ¬ (i ≡ k) → bit_at new i ≡ bit_at old i
