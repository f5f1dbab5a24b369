-- A reader or a writer of the system with a count of its faults.
use Rattle.std.specs.Prelude.{ℕ}

-- what is read from or written to, and how many of its calls failed
pub record Adapter (R : Type 0) : Type 0 where
  pub inner : R
  pub faults : ℕ
