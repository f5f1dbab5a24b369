-- A sink in memory as its callers see it.
use Rattle.std.specs.Prelude.{ℕ, List, ◌++◌}
use Rattle.io_face.specs.Plan.{FaultPlan, after_success, after_failure}

-- the bytes written, how many a write takes at most, and which writes fail
pub record Collector : Type 0 where
  pub written : List ℕ
  pub piece : ℕ
  pub plan : FaultPlan

-- the collector after a write that took the text
abbrev pub collector_after : Collector → List ℕ → Collector
collector_after collector text =
    record collector { written = collector.written ++ text; plan = after_success collector.plan }

-- the collector after a write that failed
abbrev pub collector_after_failure : Collector → Collector
collector_after_failure collector = record collector { plan = after_failure collector.plan }

-- the collector after a write that found no memory
abbrev pub collector_without_memory : Collector → Collector
collector_without_memory collector = record collector { plan = after_success collector.plan }
