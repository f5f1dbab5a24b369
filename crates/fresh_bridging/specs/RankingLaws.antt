-- The least cost of a kind ranks it: what a chosen edge leads to costs less, so a path of chosen
-- edges repeats no kind.
use Rattle.std.specs.Prelude.{◌≡◌, ◌+◌, ◌<◌, ◌≤◌, ℕ, zero, suc, nat_lt, Bool, true, false, ◌||◌, cond, List, [], ◌∷◌, map, count_by, Some, slice_get, refl}
use Rattle.std.proofs.Common.{arith, sym, ap, subst, ◌∙◌, true≢false}
use Rattle.std.specs.List.{list_any}
use Rattle.std.proofs.lemmas.Bool.Decides.{Decides-eqb, nat_tests}
use Rattle.std.proofs.lemmas.Option.{none-some, same_Some}
use Rattle.std.proofs.lemmas.List.Sums.{count_by-le-length}
use Rattle.map_laws.specs.SumLaws.{count_first}
use Rattle.bridge_graph.specs.Hypergraph.{IsCostly, children_of as children_in}
use Rattle.bridge_graph.specs.Tree.{IsFirstEdge, Tree, TreeBy, Trees, by, each, native, via}
use Rattle.bridge_graph.specs.declared.Choice.{Choice}
use Rattle.bridge_graph.specs.declared.Choice.TheVariants.{By, Missing, Native}
use Rattle.bridge_graph.specs.declared.EdgeRow.{EdgeRow}
use Rattle.item_core.specs.declared.edge.EdgeEntry.{EdgeEntry}
use Rattle.item_core.specs.declared.edge.TheConstants.{EDGE_ROWS}
use Rattle.item_core.specs.declared.kind.Kind.{Kind}
use Rattle.item_core.specs.declared.kind.TheConstants.{KINDS}
use Rattle.item_core.specs.Edge.{kinds_in}
use Rattle.item_core.specs.Kind.{kind_eq, kind_number}
use Rattle.fresh_bridging.specs.TableLaws.{IsEdgeEntry, entry_of, equal_kinds, kind_stands, same_kind, usable_family}
use Rattle.fresh_bridging.specs.TheRules.{AreChoices, IsChoice, Setting, edges_on, graph_of, is_usable}

-- ---- counting

abbrev counted : Bool → ℕ
counted b = cond b 1 0

-- fewer pass a stricter test, where one that it leaves out stands among them
pub fewer_pass : {A : Type 0} (p q : A → Bool) (xs : List A) → ((x : A) → p x ≡ true → q x ≡ true)
    → count_by p xs ≤ count_by q xs
fewer_pass p q [] weaker = omega arith
fewer_pass p q (x ∷ xs) weaker =
    by (p x) refl (fewer_pass p q xs weaker)
  where
    by : (b : Bool) → p x ≡ b → count_by p xs ≤ count_by q xs
        → count_by p (x ∷ xs) ≤ count_by q (x ∷ xs)
    by true e h =
        omega (
          arith,
          h,
          count_first p x xs,
          count_first q x xs,
          ap counted e,
          ap counted
              (weaker x e),
        )
    by false e h = omega (arith, h, count_first p x xs, count_first q x xs, ap counted e)

pub fewer_by_one : {A : Type 0} (p q : A → Bool) (xs : List A) (n : ℕ) (one : A)
    → ((x : A) → p x ≡ true → q x ≡ true) → slice_get xs n ≡ Some one → p one ≡ false
    → q one ≡ true → count_by p xs + 1 ≤ count_by q xs
fewer_by_one p q [] n one weaker e out inside = absurd (none-some one e)
fewer_by_one p q (x ∷ xs) zero one weaker e out inside =
    let same : x ≡ one = same_Some x one e in
    omega (
      arith,
      fewer_pass p q xs weaker,
      count_first p x xs,
      count_first q x xs,
      ap counted
          (ap p same ∙ out),
      ap counted (ap q same ∙ inside),
    )
fewer_by_one p q (x ∷ xs) (suc n) one weaker e out inside =
    by (p x) refl (fewer_by_one p q xs n one weaker e out inside)
  where
    by : (b : Bool) → p x ≡ b → count_by p xs + 1 ≤ count_by q xs
        → count_by p (x ∷ xs) + 1 ≤ count_by q (x ∷ xs)
    by true f h =
        omega (
          arith,
          h,
          count_first p x xs,
          count_first q x xs,
          ap counted f,
          ap counted
              (weaker x f),
        )
    by false f h = omega (arith, h, count_first p x xs, count_first q x xs, ap counted f)

-- ---- trees

module _ (setting : Setting) (costly : IsCostly (graph_of setting)) where
  -- a tree that begins with an edge, taken apart
  pub record IsOpened (edge kind cost : ℕ) : Type 0 where
    pub row : EdgeRow
    pub below : ℕ
    pub row_is : slice_get EDGE_ROWS edge ≡ Some row
    pub is_on : slice_get (edges_on setting) edge ≡ Some true
    pub source : row.source ≡ kind
    pub trees : Trees (graph_of setting) (children_in row) below
    pub less : below < cost

  opened : {edge kind cost : ℕ} → TreeBy (graph_of setting) edge kind cost → IsOpened edge kind cost
  opened (via {edge} {cost} {children} {row} usable trees) = record {
    row = row;
    below = children;
    row_is = usable.row_is;
    is_on = usable.is_on;
    source = refl;
    trees = trees;
    less = omega (arith, costly edge cost usable.cost_is);
  }

  -- of the listed kinds each has a tree, which costs no more than all
  one_of : (kinds : List Kind) (total : ℕ) (kind : Kind)
      → Trees (graph_of setting) (map kind_number kinds) total
      → list_any (kind_eq kind) kinds ≡ true
      → (cost : ℕ) × Tree (graph_of setting) (kind_number kind) cost × (cost ≤ total)
  one_of [] total kind trees h = absurd (true≢false (sym h))
  one_of (k ∷ kinds) total kind (each {cost = cost} {others = others} tree trees) h =
      here_or_later (kind_eq kind k) refl h (one_of kinds others kind trees)
    where
      here_or_later : (b : Bool) → kind_eq kind k ≡ b → (b || list_any (kind_eq kind) kinds) ≡ true
          → (list_any (kind_eq kind) kinds ≡ true
          → (c : ℕ) × Tree (graph_of setting) (kind_number kind) c × (c ≤ others))
          → (c : ℕ) × Tree (graph_of setting) (kind_number kind) c × (c ≤ cost + others)
      here_or_later true e all rest = (
        cost,
        subst (λ n. Tree (graph_of setting) n cost)
            (sym ((Decides-eqb (kind_number kind) (kind_number k)).0
            (sym (equal_kinds kind k) ∙ e))) tree,
        omega arith,
      )
      here_or_later false e later rest =
          let found = rest later in (found.0, found.1, omega (arith, found.2))

  module _ (choice : ℕ → Choice) (chosen : AreChoices setting choice) where
    abbrev rank_by : (kind : ℕ) (c : Choice) → IsChoice (graph_of setting) kind c → ℕ
    rank_by kind Native h = 0
    rank_by kind (By edge) h = h.0
    rank_by kind Missing h = 0

    -- the least cost of a kind that has a tree
    unfoldable pub rank : ℕ → ℕ
    rank kind = rank_by kind (choice kind) (chosen kind)

    pub rank_least : (kind cost : ℕ) → Tree (graph_of setting) kind cost → rank kind ≤ cost
    unfolding rank
    rank_least kind cost tree = by_choice (choice kind) (chosen kind)
      where
        by_choice : (c : Choice) (h : IsChoice (graph_of setting) kind c) → rank_by kind c h ≤ cost
        by_choice Native h = omega arith
        by_choice (By edge) h = h.1.least cost tree
        by_choice Missing h = absurd (h cost tree)

    pub rank_tree : (kind cost : ℕ) → Tree (graph_of setting) kind cost
        → Tree (graph_of setting) kind (rank kind)
    unfolding rank
    rank_tree kind cost tree = by_choice (choice kind) (chosen kind)
      where
        by_choice : (c : Choice) (h : IsChoice (graph_of setting) kind c)
            → Tree (graph_of setting) kind (rank_by kind c h)
        by_choice Native h = native h
        by_choice (By edge) h = by h.1.tree
        by_choice Missing h = absurd (h cost tree)

    -- ---- a chosen edge

    -- the edge's entry is of the kind, and each kind that it lists has a tree and ranks lower
    pub record LeadsDown (kind : Kind) (n : ℕ) : Type 0 where
      pub row : EdgeRow
      pub entry : EdgeEntry
      pub is_entry : IsEdgeEntry n row entry
      pub source : kind ≡ entry.source
      pub family : is_usable setting entry.family ≡ true
      pub below :
          (child : Kind) → list_any (kind_eq child) (kinds_in entry.children) ≡ true
          → ((cost : ℕ) × Tree (graph_of setting) (kind_number child) cost)
          × (rank (kind_number child) < rank (kind_number kind))

    pub leads_down : (kind : Kind) (n : ℕ) → choice (kind_number kind) ≡ By n → LeadsDown kind n
    leads_down kind n e =
        let first : IsFirstEdge (graph_of setting) (kind_number kind) n = subst
        (IsChoice (graph_of setting) (kind_number kind)) e (chosen (kind_number kind)) in
        let parts = opened first.1.tree in
        let entry = entry_of n parts.row parts.row_is in
        record {
          row = parts.row;
          entry = entry.0;
          is_entry = entry.1;
          source = same_kind kind entry.0.source (sym parts.source ∙ entry.1.source);
          family = usable_family setting n entry.0 entry.1.here parts.is_on;
          below = λ child h.
              let one = one_of (kinds_in entry.0.children) parts.below child
              (subst (λ ks. Trees (graph_of setting) ks parts.below) entry.1.children
              parts.trees) h in (
                (one.0, one.1),
                omega (
                  arith,
                  rank_least (kind_number child) one.0 one.1,
                  one.2,
                  parts.less,
                  first.1.least (rank (kind_number kind))
                      (rank_tree (kind_number kind) first.0 (by first.1.tree)),
                ),
              );
        }

    -- how many kinds rank below a number
    abbrev pub ranked_below : ℕ → ℕ
    ranked_below r = count_by (λ kind. nat_lt (rank (kind_number kind)) r) KINDS.kinds

    pub fewer_below : (kind : Kind) (r : ℕ) → rank (kind_number kind) < r
        → ranked_below (rank (kind_number kind)) + 1 ≤ ranked_below r
    fewer_below kind r h =
        fewer_by_one (λ k. nat_lt (rank (kind_number k)) (rank (kind_number kind)))
        (λ k. nat_lt (rank (kind_number k)) r)
        KINDS.kinds (kind_number kind) kind (λ k e. grind (arith, nat_tests)) (kind_stands kind)
        (grind (arith, nat_tests)) (grind (arith, nat_tests))

    pub at_most_34 : (kind : Kind) → ranked_below (rank (kind_number kind)) ≤ 34
    at_most_34 kind =
        omega (
          arith,
          fewer_below kind (suc (rank (kind_number kind))) (omega arith),
          count_by-le-length (λ k. nat_lt (rank (kind_number k)) (suc (rank (kind_number kind))))
              KINDS.kinds,
        )
