-- A source in memory as its callers see it.
use Rattle.std.specs.Prelude.{ℕ, List, drop}
use Rattle.io_face.specs.Plan.{FaultPlan, after_success, after_failure}

-- the bytes left, how many a read gives at most, and which reads fail
pub record Feed : Type 0 where
  pub left : List ℕ
  pub piece : ℕ
  pub plan : FaultPlan

-- the feed after a read that gave n bytes
abbrev pub feed_after : Feed → ℕ → Feed
feed_after feed n = record feed { left = drop n feed.left; plan = after_success feed.plan }

-- the feed after a read that failed
abbrev pub feed_after_failure : Feed → Feed
feed_after_failure feed = record feed { plan = after_failure feed.plan }
