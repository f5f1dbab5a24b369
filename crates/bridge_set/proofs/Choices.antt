-- Choices of a graph, and the graph of the table.
use Rattle.std.specs.Prelude.{◌≡◌, ◌<◌, ◌≤◌, ◌&&◌, ℕ, suc, true, nat_lt, nat_le, List, [], ◌∷◌, Some, IsTrue, length, slice_get, slice_index_or, refl}
use Rattle.std.specs.List.{list_all}
use Rattle.std.proofs.Common.{arith, sym, ◌∙◌}
use Rattle.std.proofs.lemmas.Bool.Decides.{nat_tests}
use Rattle.std.proofs.lemmas.Option.{none-some, slice_get_past}
use Rattle.map_laws.specs.EachLaws.{all_at}
use Rattle.bridge_graph.specs.Hypergraph.{Hypergraph, IsSupported, children_of, has_kinds_below, is_edge_cost}
use Rattle.bridge_graph.specs.Tree.{IsFirstEdge, IsTreeless, Tree, TreeBy, by, native, via}
use Rattle.bridge_graph.specs.declared.Choice.{Choice}
use Rattle.bridge_graph.specs.declared.Choice.TheVariants.{By, Missing, Native}
use Rattle.bridge_graph.specs.declared.EdgeRow.{EdgeRow}
use Rattle.item_core.specs.declared.edge.TheConstants.{EDGE_ROWS}
use Rattle.item_core.specs.Kind.{kind_count}
use Rattle.fresh_bridging.specs.TableLaws.{and_first}
use Rattle.fresh_bridging.specs.TheRules.{IsChoice, Setting, graph_of}

-- a choice of a graph tells what the kind has
pub choice_is : (graph : Hypergraph) (kind : ℕ) (c : Choice)
    → (c ≡ Native → IsSupported graph kind)
    → ((edge : ℕ) → c ≡ By edge → IsFirstEdge graph kind edge)
    → (c ≡ Missing → IsTreeless graph kind) → IsChoice graph kind c
choice_is graph kind Native supported first treeless = supported refl
choice_is graph kind (By edge) supported first treeless = first edge refl
choice_is graph kind Missing supported first treeless = treeless refl

-- ---- no kind past the table's has a tree

rows_below : list_all (has_kinds_below kind_count) EDGE_ROWS ≡ true
rows_below = refl

source_below : (n : ℕ) (row : EdgeRow) → slice_get EDGE_ROWS n ≡ Some row → row.source < kind_count
source_below n row e =
    let all = all_at (has_kinds_below kind_count) EDGE_ROWS n row rows_below e in
    let first = and_first (nat_lt row.source kind_count) (nat_le row.count 3)
    (and_first (nat_lt row.source kind_count && nat_le row.count 3)
    (list_all (λ kind. nat_lt kind kind_count) (children_of row)) all) in
    grind (arith, nat_tests, first)

module _ (setting : Setting) (long : length setting.table.supported ≡ kind_count) where
  no_edge : {edge kind cost : ℕ} → TreeBy (graph_of setting) edge kind cost → kind < kind_count
  no_edge (via {edge} {cost} {children} {row} usable trees) = source_below edge row usable.row_is

  pub past_kinds : (kind cost : ℕ) → kind_count ≤ kind → Tree (graph_of setting) kind cost → ⊥
  past_kinds kind cost past (native supported) =
      none-some true (sym (slice_get_past setting.table.supported kind (omega (arith, long)))
      ∙ supported)
  past_kinds kind cost past (by tree) = omega (arith, no_edge tree)

pub costs_some : (costs : List ℕ) → IsTrue (list_all is_edge_cost costs) → (edge cost : ℕ)
    → slice_get costs edge ≡ Some cost → 1 ≤ cost
costs_some costs h edge cost e =
    let all = all_at is_edge_cost costs edge cost h e in
    let first = and_first (nat_le 1 cost) (nat_le cost 1000) all in
    grind (arith, nat_tests, first)

-- ---- lists that agree at each place

pub same_by_place : {X : Type 0} (d : X) (xs ys : List X) → length xs ≡ length ys
    → ((k : ℕ) → k < length xs → slice_index_or xs k d ≡ slice_index_or ys k d) → xs ≡ ys
same_by_place d [] [] e h = refl
same_by_place d [] (y ∷ ys) e h = absurd (omega (arith, e))
same_by_place d (x ∷ xs) [] e h = absurd (omega (arith, e))
same_by_place d (x ∷ xs) (y ∷ ys) e h =
    λ i. h 0 (omega arith) i
    ∷ same_by_place d xs ys (omega (arith, e)) (λ k lt. h (suc k) (omega (arith, lt))) i
