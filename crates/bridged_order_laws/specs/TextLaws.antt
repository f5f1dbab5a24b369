-- Lines whose addresses are below those of others come first where all are put in order.
use Rattle.std.specs.Prelude.{◌≡◌, Bool, true, false, cond, T, List, [], ◌∷◌, ◌++◌, All, map, refl}
use Rattle.std.specs.FinMap as finite
use Rattle.std.specs.FinMap.{entries, is_sorted}
use Rattle.std.specs.FinMap.Entries.{below_all}
use Rattle.std.specs.Ordering.{is_le}
use Rattle.std.specs.declared.cmp.Ordering.TheVariants.{Less}
use Rattle.std.proofs.Common.{ap, sym, ◌∙◌}
use Rattle.std.proofs.lemmas.Grind.{flat_map-append}
use Rattle.std.proofs.lemmas.List.Elements.{All-append, All-cons, All-head, All-map, All-nil, All-tail, All-weaker}
use Rattle.aff_core.specs.Address.{Address, address_cmp}
use Rattle.bridge_graph.specs.Hypergraph.{IsCostly}
use Rattle.bridged_report.specs.Lines.{LeafLine, bridged_text, in_order, joined, objective_line, put_before, row_line, variable_line}
use Rattle.fresh_bridging.specs.CanLaws.{AreLawful}
use Rattle.fresh_bridging.specs.FreshBridging.{FreshBridging, leaves_of}
use Rattle.fresh_bridging.specs.TheRules.{Setting, graph_of}
use Rattle.map_laws.specs.TestLaws.{first, is_less, second}
use Rattle.user_model.specs.Model.{ModelValue}
use Rattle.user_model.specs.Valid.{IsValid}
use Rattle.bridged_order_laws.specs.Merged.{merged_text}
use Rattle.bridged_order_laws.specs.ModelLaws.{rows_precede, variables_precede}

-- the line is below each of these
abbrev IsFirst : List LeafLine → LeafLine → Type 0
IsFirst others line = All (λ other. address_cmp line.0 other.0 ≡ Less) others

put_at_front : (line : LeafLine) (others : List LeafLine) → IsFirst others line
    → put_before line others ≡ line ∷ others
put_at_front line [] h = refl
put_at_front line (other ∷ others) h =
    ap (λ o. cond (is_le o) (line ∷ other ∷ others) (other ∷ put_before line others))
    (All-head (λ other. address_cmp line.0 other.0 ≡ Less) other others h)

put_within : (line : LeafLine) (lines others : List LeafLine) → IsFirst others line
    → put_before line (lines ++ others) ≡ put_before line lines ++ others
put_within line [] others h = put_at_front line others h
put_within line (other ∷ lines) others h =
    by (is_le (address_cmp line.0 other.0)) (put_within line lines others h)
  where
    by : (b : Bool) → put_before line (lines ++ others) ≡ put_before line lines ++ others
        → cond b (line ∷ other ∷ (lines ++ others)) (other ∷ put_before line (lines ++ others))
        ≡ cond b (line ∷ other ∷ lines) (other ∷ put_before line lines) ++ others
    by true e = refl
    by false e = ap (λ ls. other ∷ ls) e

in_order-append : (lines others : List LeafLine) → All (IsFirst others) lines
    → in_order others ≡ others → in_order (lines ++ others) ≡ in_order lines ++ others
in_order-append [] others h e = e
in_order-append (line ∷ lines) others h e =
    ap (put_before line) (in_order-append lines others (All-tail (IsFirst others) line lines h) e)
    ∙ put_within line (in_order lines) others (All-head (IsFirst others) line lines h)

-- ---- lines of entries

module _ {X : Type 0} (line : Address × X → LeafLine) (own : (e : Address × X) → (line e).0 ≡ e.0) where
  first_of : (e : Address × X) (es : List (Address × X)) → T (below_all address_cmp e.0 es)
      → IsFirst (map line es) (line e)
  first_of e [] h = All-nil (λ other. address_cmp (line e).0 other.0 ≡ Less)
  first_of e (f ∷ es) h =
      All-cons (λ other. address_cmp (line e).0 other.0 ≡ Less) (line f) (map line es)
      ((λ i. address_cmp (own e i) (own f i)) ∙ is_less (address_cmp e.0 f.0) (first _ _ h))
      (first_of e es (second _ _ h))

  -- entries of a map rise, and so their lines stay as they are
  rising : (es : List (Address × X)) → T (is_sorted address_cmp es)
      → in_order (map line es) ≡ map line es
  rising [] h = refl
  rising (e ∷ es) h =
      ap (put_before (line e)) (rising es (second _ _ h))
      ∙ put_at_front (line e) (map line es) (first_of e es (first _ _ h))

module _ {X Y : Type 0} (line : Address × X → LeafLine) (own : (e : Address × X) → (line e).0 ≡ e.0)
    (other : Address × Y → LeafLine) (its : (o : Address × Y) → (other o).0 ≡ o.0) where
  -- by entries, one list with each of another
  abbrev IsBelowEach : List (Address × Y) → Address × X → Type 0
  IsBelowEach os e = All (λ o. address_cmp e.0 o.0 ≡ Less) os

  turned : (es : List (Address × X)) (os : List (Address × Y))
      → All (λ o. All (λ (e : Address × X). address_cmp e.0 o.0 ≡ Less) es) os
      → All (IsBelowEach os) es
  turned [] os h = All-nil (IsBelowEach os)
  turned (e ∷ es) os h =
      All-cons (IsBelowEach os) e es
      (All-weaker (λ o. All (λ (e : Address × X). address_cmp e.0 o.0 ≡ Less) (e ∷ es))
      (λ o. address_cmp e.0 o.0 ≡ Less)
      (λ o k. All-head (λ (e : Address × X). address_cmp e.0 o.0 ≡ Less) e es k) os h)
      (turned es os
      (All-weaker (λ o. All (λ (e : Address × X). address_cmp e.0 o.0 ≡ Less) (e ∷ es))
      (λ o. All (λ (e : Address × X). address_cmp e.0 o.0 ≡ Less) es)
      (λ o k. All-tail (λ (e : Address × X). address_cmp e.0 o.0 ≡ Less) e es k) os h))

  pub lines_first : (es : List (Address × X)) (os : List (Address × Y))
      → All (λ o. All (λ (e : Address × X). address_cmp e.0 o.0 ≡ Less) es) os
      → All (IsFirst (map other os)) (map line es)
  lines_first es os h =
      All-map (IsFirst (map other os)) line es
      (All-weaker (IsBelowEach os) (λ e. IsFirst (map other os) (line e))
      (λ e k. All-map (λ l. address_cmp (line e).0 l.0 ≡ Less) other os
      (All-weaker (λ o. address_cmp e.0 o.0 ≡ Less)
      (λ o. address_cmp (line e).0 (other o).0 ≡ Less)
      (λ o less. (λ i. address_cmp (own e i) (its o i)) ∙ less) os k))
      es (turned es os h))

pub prints_in_order : (setting : Setting) → IsCostly (graph_of setting) → AreLawful setting
    → (model : ModelValue) → IsValid model → (bridging : FreshBridging setting model)
    → bridged_text model (leaves_of bridging) ≡ merged_text model (leaves_of bridging)
unfolding bridged_text
prints_in_order setting costly lawful model valid bridging =
    let variables = entries (leaves_of bridging).variables in
    let rows = entries (leaves_of bridging).rows in
    let objectives = entries (leaves_of bridging).objective in
    let lines = map (variable_line model) variables ++ map (row_line model) rows in
    let others = map (objective_line model) objectives in
    sym (ap joined (in_order-append lines others
    (All-append (IsFirst others) (map (variable_line model) variables)
    (map (row_line model) rows)
    (lines_first (variable_line model) (λ e. refl) (objective_line model) (λ o. refl) variables
    objectives (variables_precede setting costly lawful model valid bridging))
    (lines_first (row_line model) (λ e. refl) (objective_line model) (λ o. refl) rows objectives
    (rows_precede setting costly lawful model valid bridging)))
    (rising (objective_line model) (λ o. refl) objectives
    (finite.entries_sorted (leaves_of bridging).objective)))
    ∙ flat_map-append (λ (l : LeafLine). l.1) (in_order lines) others)
