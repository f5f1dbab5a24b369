-- What is worked out for each kind.
use Rattle.std.specs.Prelude.{ℕ, ◌≤◌, Bool, false, List, Option, Some, None, unwrap_or, slice_index_or, if◌then◌else◌}
use Rattle.bridge_graph.specs.declared.settling.KindPlan.{KindPlan}
use Rattle.bridge_graph.specs.declared.settling.KindPlan.TheVariants.{Open, Native, By}
use Rattle.bridge_graph.specs.Hypergraph.{Hypergraph, IsSupported, IsCostly}
use Rattle.bridge_graph.specs.Tree.{IsTreeless, BeginsLeast}

-- the plan of a kind, which is open past the end
abbrev pub plan_at : List KindPlan → ℕ → KindPlan
plan_at plans kind = slice_index_or plans kind Open

-- the plan says how the kind is reached at least cost
abbrev pub IsLeastPlan : Hypergraph → ℕ → KindPlan → Type 0
IsLeastPlan graph kind Open = IsTreeless graph kind
IsLeastPlan graph kind Native = IsSupported graph kind
IsLeastPlan graph kind (By edge cost) = BeginsLeast graph kind edge cost

-- each kind has its plan, and no edge is free
pub record IsGraphSolved (graph : Hypergraph) (plans : List KindPlan) : Type 0 where
  pub plan : (kind : ℕ) → IsLeastPlan graph kind (plan_at plans kind)
  pub costly : IsCostly graph

-- what reaching the kind costs, where that is known
abbrev pub cost_of : KindPlan → Option ℕ
cost_of Open = None
cost_of Native = Some 0
cost_of (By edge cost) = Some cost

-- no plan costs more than this
abbrev pub ArePlansWithin : List KindPlan → ℕ → Type 0
ArePlansWithin plans limit = (kind : ℕ) → unwrap_or (cost_of (plan_at plans kind)) 0 ≤ limit

-- a kind before any edge is used
abbrev pub start_at : List Bool → ℕ → KindPlan
start_at supported kind = if slice_index_or supported kind false then Native else Open
