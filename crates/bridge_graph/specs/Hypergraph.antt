-- A hypergraph of kinds: an edge leads from one kind to up to three.
use Rattle.std.specs.Prelude.{◌≡◌, ℕ, ◌≤◌, Bool, true, ◌&&◌, nat_lt, nat_le, List, take, Some, slice_get}
use Rattle.std.specs.List.{list_all}
use Rattle.bridge_graph.specs.declared.EdgeRow.{EdgeRow}

-- the edges in order with their costs, which kinds are supported, and which edges are on
pub record Hypergraph : Type 0 where
  pub edges : List EdgeRow
  pub costs : List ℕ
  pub supported : List Bool
  pub on : List Bool

abbrev pub hypergraph_of : List EdgeRow → List ℕ → List Bool → List Bool → Hypergraph
hypergraph_of edges costs supported on =
    record { edges = edges; costs = costs; supported = supported; on = on }

-- the kinds that an edge leads to, each as often as it is listed
abbrev pub children_of : EdgeRow → List ℕ
children_of row = take row.count row.children

abbrev pub IsSupported : Hypergraph → ℕ → Type 0
IsSupported graph kind = slice_get graph.supported kind ≡ Some true

-- the edge is on, with this row and this cost
pub record IsUsable (edges : List EdgeRow) (costs : List ℕ) (on : List Bool) (edge : ℕ)
    (row : EdgeRow) (cost : ℕ) : Type 0 where
  pub is_on : slice_get on edge ≡ Some true
  pub row_is : slice_get edges edge ≡ Some row
  pub cost_is : slice_get costs edge ≡ Some cost

-- the row lists at most three children, and its kinds are below n
abbrev pub has_kinds_below : ℕ → EdgeRow → Bool
has_kinds_below n row =
    nat_lt row.source n && nat_le row.count 3 && list_all (λ kind. nat_lt kind n) (children_of row)

abbrev pub is_edge_cost : ℕ → Bool
is_edge_cost cost = nat_le 1 cost && nat_le cost 1000

-- no edge is free
abbrev pub IsCostly : Hypergraph → Type 0
IsCostly graph = (edge cost : ℕ) → slice_get graph.costs edge ≡ Some cost → 1 ≤ cost
