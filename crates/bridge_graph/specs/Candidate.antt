-- The edges from open kinds whose children are settled.
use Rattle.std.specs.Prelude.{◌≡◌, ℕ, ◌+◌, ◌≤◌, Bool, List, [], ◌∷◌, Option, Some, None, nat_le, if◌then◌else◌, option_and_then}
use Rattle.bridge_graph.specs.declared.EdgeRow.{EdgeRow}
use Rattle.bridge_graph.specs.declared.settling.KindPlan.{KindPlan}
use Rattle.bridge_graph.specs.declared.settling.KindPlan.TheVariants.{Open}
use Rattle.bridge_graph.specs.declared.settling.Step.{Step}
use Rattle.bridge_graph.specs.Hypergraph.{children_of, IsUsable}
use Rattle.bridge_graph.specs.KindPlan.{plan_at, cost_of}

-- a total with the costs of these kinds, where each is settled
abbrev pub with_children : List KindPlan → ℕ → List ℕ → Option ℕ
with_children plans total [] = Some total
with_children plans total (kind ∷ kinds) =
    option_and_then (λ cost. with_children plans (total + cost) kinds)
    (cost_of (plan_at plans kind))

-- the step settles an open kind by an edge that is on, whose children are settled
pub record IsCandidateStep (edges : List EdgeRow) (costs : List ℕ) (on : List Bool) (plans : List KindPlan)
    (step : Step) : Type 0 where
  pub row : EdgeRow
  pub cost : ℕ
  pub usable : IsUsable edges costs on step.edge row cost
  pub source : row.source ≡ step.kind
  pub is_open : plan_at plans step.kind ≡ Open
  pub total : with_children plans cost (children_of row) ≡ Some step.cost

-- the best step so far, or a later edge's where that costs less
abbrev pub cheaper_of : Option Step → Step → Step
cheaper_of None step = step
cheaper_of (Some best) step = if nat_le best.cost step.cost then best else step

-- the first step costs less, or as much by an edge that is not above the other's
pub record IsStepBefore (step other : Step) : Type 0 where
  pub cheaper : step.cost ≤ other.cost
  pub lower : step.cost ≡ other.cost → step.edge ≤ other.edge

-- a candidate that comes before every other
pub record IsCheapest (edges : List EdgeRow) (costs : List ℕ) (on : List Bool) (plans : List KindPlan)
    (step : Step) : Type 0 where
  pub candidate : IsCandidateStep edges costs on plans step
  pub first : (other : Step) → IsCandidateStep edges costs on plans other → IsStepBefore step other
