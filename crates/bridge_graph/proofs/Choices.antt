-- The choice and the cost that a plan gives.
use Rattle.std.proofs.Common.{◌≡◌, ℕ, zero, suc, ◌+◌, ◌≤◌, ◌<◌, ◌↔◌, List, Contains, IsNone, IfSome, refl, sym, subst, arith}
use Rattle.bridge_graph.specs.declared.settling.KindPlan.{KindPlan}
use Rattle.bridge_graph.specs.declared.settling.KindPlan.TheVariants.{Open, Native, By}
use Rattle.bridge_graph.specs.Hypergraph.{Hypergraph, children_of, IsSupported, IsCostly}
use Rattle.bridge_graph.specs.Tree.{Tree, native, by, TreeBy, via, Trees, none, each, IsTreeless, IsLeastCost, BeginsLeast, IsFirstEdge, CostsLess, LeadsBelow}
use Rattle.bridge_graph.specs.KindPlan.{IsLeastPlan, IsGraphSolved, plan_at, cost_of}

-- a tree that begins with an edge isn't free
costs_something : {graph : Hypergraph} {edge kind cost : ℕ} → IsCostly graph
    → TreeBy graph edge kind cost → 1 ≤ cost
costs_something costly (via {edge} {cost} usable trees) =
    let h = costly edge cost usable.cost_is in omega arith

-- no edge begins a least-cost tree of a supported kind
pub supported_first : {graph : Hypergraph} {kind edge : ℕ} → IsCostly graph → IsSupported graph kind
    → IsFirstEdge graph kind edge → ⊥
supported_first costly supported (cost, best) =
    let h = costs_something costly best.tree in
    let l = best.least 0 (native supported) in
    omega arith

-- one edge alone is the first
pub same_first : {graph : Hypergraph} {kind edge other cost : ℕ} → BeginsLeast graph kind edge cost
    → IsFirstEdge graph kind other → edge ≡ other
same_first {graph} {kind} {edge} {other} {cost} best (cost', best') =
    let h = best.least cost' (by best'.tree) in
    let l = best'.least cost (by best.tree) in
    let same : cost' ≡ cost = omega arith in
    let up = best.lowest other (subst (TreeBy graph other kind) same best'.tree) in
    let down = best'.lowest edge (subst (TreeBy graph edge kind) (sym same) best.tree) in
    omega arith

pub no_cost : (graph : Hypergraph) (kind : ℕ) (plan : KindPlan) → IsLeastPlan graph kind plan
    → IsNone (cost_of plan) ↔ IsTreeless graph kind
no_cost graph kind Open is = (λ _. is, λ _. refl)
no_cost graph kind Native is = (λ e. absurd (cc), λ no. absurd (no 0 (native is)))
no_cost graph kind (By edge cost) is = (λ e. absurd (cc), λ no. absurd (no cost (by is.tree)))

pub least_cost : (graph : Hypergraph) (kind : ℕ) (plan : KindPlan) → IsLeastPlan graph kind plan
    → IfSome (cost_of plan) (IsLeastCost graph kind)
least_cost graph kind Open is = tt
least_cost graph kind Native is = record { tree = native is; least = λ other tree. omega arith }
least_cost graph kind (By edge cost) is = record { tree = by is.tree; least = is.least }

-- a child of a tree has a tree that costs less
ChildTree : Hypergraph → ℕ → ℕ → Type 0
ChildTree graph child limit = (cost : ℕ) × Tree graph child cost × (cost ≤ limit)

child_tree : (graph : Hypergraph) {kinds : List ℕ} {cost : ℕ} → Trees graph kinds cost → (child : ℕ)
    → Contains kinds child → ChildTree graph child cost
unfolding ChildTree
child_tree graph none child (k, within, is) = absurd (omega arith)
child_tree graph (each {kind} {cost} {others} {kinds} tree trees) child (zero, within, is) =
    (cost, subst (λ k. Tree graph k cost) is tree, omega arith)
child_tree graph (each {kind} {cost} {others} {kinds} tree trees) child (suc k, within, is) =
    let (less, found, le) = child_tree graph trees child (k, omega arith, is) in
    (less, found, omega arith)

-- a kind that has a tree has a least cost, which is at most that tree's
least_below : (graph : Hypergraph) (kind cost limit : ℕ) (plan : KindPlan) → IsLeastPlan graph kind plan
    → Tree graph kind cost → cost < limit → CostsLess graph limit kind
least_below graph kind cost limit Open treeless tree below = absurd (treeless cost tree)
least_below graph kind cost limit Native is tree below =
    record { cost = 0; is_least = least_cost graph kind Native is; less = omega arith }
least_below graph kind cost limit (By edge c) is tree below =
    let h = is.least cost tree in
    record { cost = c; is_least = least_cost graph kind (By edge c) is; less = omega arith }

children_below : (graph : Hypergraph) {plans : List KindPlan} {edge kind cost : ℕ}
    → IsGraphSolved graph plans → TreeBy graph edge kind cost → LeadsBelow graph edge cost
unfolding ChildTree
children_below graph {plans} solved (via {edge} {cost} {children} {row = used} usable trees) row is
    child found =
    let same : row ≡ used = cc (is, usable.row_is) in
    let (less, tree, le) = child_tree graph trees child (subst (λ r. Contains (children_of r) child)
    same found) in
    let positive = solved.costly edge cost usable.cost_is in
    least_below graph child less (cost + children) (plan_at plans child) (solved.plan child) tree
    (omega arith)

-- each child of an edge that begins a least-cost tree costs less than the kind
pub leads_below : (graph : Hypergraph) {plans : List KindPlan} {edge kind found cost : ℕ}
    → IsGraphSolved graph plans → BeginsLeast graph kind edge found → IsLeastCost graph kind cost
    → LeadsBelow graph edge cost
leads_below graph {plans} {edge} {kind} {found} {cost} solved best least =
    let up = best.least cost least.tree in
    let down = least.least found (by best.tree) in
    let same : found ≡ cost = omega arith in
    subst (LeadsBelow graph edge) same (children_below graph solved best.tree)
