-- Trees of a kind, their cost, and the least of them.
use Rattle.std.specs.Prelude.{◌≡◌, ℕ, ◌+◌, ◌<◌, ◌≤◌, List, [], ◌∷◌, Some, slice_get, Contains}
use Rattle.bridge_graph.specs.declared.EdgeRow.{EdgeRow}
use Rattle.bridge_graph.specs.Hypergraph.{Hypergraph, children_of, IsSupported, IsUsable}

mutual
  -- a tree of a kind, and its cost: the kind is supported, or the tree begins with an edge
  pub data Tree (graph : Hypergraph) : ℕ → ℕ → Type 0 where
    native : {kind : ℕ} → IsSupported graph kind → Tree graph kind 0
    by : {edge kind cost : ℕ} → TreeBy graph edge kind cost → Tree graph kind cost

  -- a tree that begins with this edge from this kind: it costs what the edge costs, and its
  -- children's trees
  pub data TreeBy (graph : Hypergraph) : ℕ → ℕ → ℕ → Type 0 where
    via : {edge cost children : ℕ} {row : EdgeRow}
        → IsUsable graph.edges graph.costs graph.on edge row cost
        → Trees graph (children_of row) children → TreeBy graph edge row.source (cost + children)

  -- one tree for each of the listed kinds, and the sum of their costs
  pub data Trees (graph : Hypergraph) : List ℕ → ℕ → Type 0 where
    none : Trees graph [] 0
    each : {kind cost others : ℕ} {kinds : List ℕ} → Tree graph kind cost → Trees graph kinds others
        → Trees graph (kind ∷ kinds) (cost + others)

-- the kind has no tree
abbrev pub IsTreeless : Hypergraph → ℕ → Type 0
IsTreeless graph kind = (cost : ℕ) → Tree graph kind cost → ⊥

-- the kind has a tree of this cost, and none that costs less
pub record IsLeastCost (graph : Hypergraph) (kind cost : ℕ) : Type 0 where
  pub tree : Tree graph kind cost
  pub least : (other : ℕ) → Tree graph kind other → cost ≤ other

-- the edge begins a least-cost tree of the kind, of this cost, and no lower edge does
pub record BeginsLeast (graph : Hypergraph) (kind edge cost : ℕ) : Type 0 where
  pub tree : TreeBy graph edge kind cost
  pub least : (other : ℕ) → Tree graph kind other → cost ≤ other
  pub lowest : (other : ℕ) → TreeBy graph other kind cost → edge ≤ other

-- the lowest edge that begins a least-cost tree of the kind
abbrev pub IsFirstEdge : Hypergraph → ℕ → ℕ → Type 0
IsFirstEdge graph kind edge = (cost : ℕ) × BeginsLeast graph kind edge cost

-- the kind has a least cost, which is below the limit
pub record CostsLess (graph : Hypergraph) (limit kind : ℕ) : Type 0 where
  pub cost : ℕ
  pub is_least : IsLeastCost graph kind cost
  pub less : cost < limit

-- each kind that the edge leads to costs less than the limit
abbrev pub LeadsBelow : Hypergraph → ℕ → ℕ → Type 0
LeadsBelow graph edge limit =
    (row : EdgeRow) → slice_get graph.edges edge ≡ Some row
    → (child : ℕ) → Contains (children_of row) child → CostsLess graph limit child
