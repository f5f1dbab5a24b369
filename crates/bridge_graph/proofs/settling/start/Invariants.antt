use Rattle.std.proofs.Common.{◌≡◌, ℕ, ◌<◌}
use Rattle.bridge_graph.specs.KindPlan.{plan_at, start_at}
use Rattle.bridge_graph.proofs.settling.start.Given as goal

abbrev pub invariant-loop-kind : goal.invariant-loop-kind
invariant-loop-kind l = (k : ℕ) → k < l.kind → plan_at l.plans k ≡ start_at l.supported k
