-- Each kind has one choice at most, where every edge costs something.
use Rattle.std.specs.Prelude.{◌≡◌, ◌≤◌, ℕ, refl}
use Rattle.std.proofs.Common.{arith, ap, sym, subst}
use Rattle.bridge_graph.specs.Hypergraph.{Hypergraph, IsCostly, IsSupported}
use Rattle.bridge_graph.specs.Tree.{IsFirstEdge, TreeBy, by, native, via}
use Rattle.bridge_graph.specs.declared.Choice.{Choice}
use Rattle.bridge_graph.specs.declared.Choice.TheVariants.{By, Missing, Native}
use Rattle.fresh_bridging.specs.TheRules.{IsChoice}

module _ (graph : Hypergraph) (costly : IsCostly graph) where
  -- a tree that begins with an edge costs something
  pub costs_some : {edge kind cost : ℕ} → TreeBy graph edge kind cost → 1 ≤ cost
  costs_some (via {edge} {cost} usable rest) = omega (arith, costly edge cost usable.cost_is)

  -- a supported kind has no first edge
  unbridged : (kind edge : ℕ) → IsSupported graph kind → IsFirstEdge graph kind edge → ⊥
  unbridged kind edge supported first =
      omega (arith, first.1.least 0 (native supported), costs_some first.1.tree)

  same_edge : (kind edge other : ℕ) → IsFirstEdge graph kind edge → IsFirstEdge graph kind other
      → edge ≡ other
  same_edge kind edge other first second =
      let below = first.1.least second.0 (by second.1.tree) in
      let above = second.1.least first.0 (by first.1.tree) in
      let costs : first.0 ≡ second.0 = omega (arith, below, above) in
      omega (
        arith,
        first.1.lowest other (subst (TreeBy graph other kind) (sym costs) second.1.tree),
        second.1.lowest edge (subst (TreeBy graph edge kind) costs first.1.tree),
      )

  pub one_choice : (kind : ℕ) (a b : Choice) → IsChoice graph kind a → IsChoice graph kind b → a ≡ b
  one_choice kind Native Native h k = refl
  one_choice kind Native (By e) h k = absurd (unbridged kind e h k)
  one_choice kind Native Missing h k = absurd (k 0 (native h))
  one_choice kind (By e) Native h k = absurd (unbridged kind e k h)
  one_choice kind (By e) (By f) h k = ap By (same_edge kind e f h k)
  one_choice kind (By e) Missing h k = absurd (k h.0 (by h.1.tree))
  one_choice kind Missing Native h k = absurd (h 0 (native k))
  one_choice kind Missing (By e) h k = absurd (h k.0 (by k.1.tree))
  one_choice kind Missing Missing h k = refl
