-- Which calls of an object in memory fail.
use Rattle.std.specs.Prelude.{ℕ, List, Contains}
use Rattle.io_face.specs.Fault.{next_count}

-- the calls that are to fail, by their numbers from 1, how many calls were made, and how many
-- failed
pub record FaultPlan : Type 0 where
  pub fails : List ℕ
  pub made : ℕ
  pub faults : ℕ

-- the coming call is one of those that are to fail
abbrev pub IsFailing : FaultPlan → Type 0
IsFailing plan = Contains plan.fails (next_count plan.made)

-- the plan after a call that went well
abbrev pub after_success : FaultPlan → FaultPlan
after_success plan = record plan { made = next_count plan.made }

-- the plan after a call that failed
abbrev pub after_failure : FaultPlan → FaultPlan
after_failure plan = record plan { made = next_count plan.made; faults = next_count plan.faults }
