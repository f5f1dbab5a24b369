-- Counts of faults, which rise at each fault and stand still at the last value of 64 bits.
use Rattle.std.specs.Prelude.{ℕ, ◌+◌, ◌-◌, ◌^◌, ◌<◌, ◌≤◌, ◌⊎◌, ◌≡◌, min}

-- one more, or the last value
abbrev pub next_count : ℕ → ℕ
next_count n = min (n + 1) (2 ^ 64 - 1)

-- the count rose, or stands at its last value
abbrev pub HasFaulted : ℕ → ℕ → Type 0
HasFaulted old new = (old < new) ⊎ (2 ^ 64 - 1 ≤ new)

-- no fault is counted between two counts, which are below the last value
abbrev pub CountsNoFault : ℕ → ℕ → Type 0
CountsNoFault old new = (new ≡ old) × (new < 2 ^ 64 - 1)
