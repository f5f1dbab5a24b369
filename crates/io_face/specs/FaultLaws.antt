-- Faults over several calls.
use Rattle.std.proofs.Common.{ℕ, ◌-◌, ◌^◌, ◌<◌, ◌≤◌, arith}
use Rattle.io_face.specs.Fault.{HasFaulted, next_count}

-- a fault in one of several calls is a fault in all of them together
pub HasFaulted-within : (first old new last : ℕ) → first ≤ old → new ≤ last → HasFaulted old new
    → HasFaulted first last
HasFaulted-within first old new last before after h = grind arith

-- a counted fault is one
pub HasFaulted-next_count : (faults : ℕ) → HasFaulted faults (next_count faults)
HasFaulted-next_count faults = grind arith

-- where a count stands still short of its last value, there was no fault
pub HasFaulted-same : (faults : ℕ) → faults < 2 ^ 64 - 1 → HasFaulted faults faults → ⊥
HasFaulted-same faults short h = grind arith
