-- A node planned: the item, its child groups, its further children, and its components.
use Rattle.std.specs.Prelude.{◌≡◌, ℕ, ◌<◌, Bool, ◌&&◌, IsTrue, List, [], ◌∷◌, ◌++◌, All, length, map, slice_index_or, refl}
use Rattle.std.proofs.Common.{arith, ap, ap₂, sym, subst, ◌∙◌, append_assoc}
use Rattle.std.specs.List.{list_all, zip}
use Rattle.std.proofs.lemmas.List.{get_or_at, length-append, map-append}
use Rattle.bridge_graph.specs.declared.Choice.{Choice}
use Rattle.expansion.specs.Grown.{Held}
use Rattle.item_core.specs.declared.item.Item.{Item}
use Rattle.item_core.specs.Item.{variables_of}
use Rattle.bridge_face.specs.ImageOf.{image_of}
use Rattle.bridge_face.specs.declared.kept_item.KeptItem.{KeptItem}
use Rattle.fresh_bridging.specs.Entries.{Entry, expression_in, put_in, put_into, put_into_fits}
use Rattle.fresh_bridging.specs.TableLaws.{and_first, and_second}
use Rattle.fresh_bridging.specs.TheRules.{children_by, edge_at, image_fits}
use Rattle.bridge_plan.specs.AddsHeld.{AddsHeld, kept_of}
use Rattle.bridge_plan.specs.Worked.{Splits, worked_each, worked_in, worked_node}
use Rattle.bridge_plan.specs.declared.plan.Plan.{Plan}
use Rattle.bridge_plan.specs.Alike.{into_alike, into_fits_alike, put_alike, worked_in_alike}

module _ (choice : ℕ → Choice) (below : Item → Held Item Entry) (edge : ℕ) (item : Item) where
  abbrev pub groups_held : Held Item Entry
  groups_held = worked_each choice below (children_by edge item).groups

  abbrev pub others_held : List Entry → Held Item Entry
  others_held inner = worked_in choice below inner (children_by edge item).others

  abbrev pub node : Held Item Entry
  node = worked_node choice below edge item

  abbrev pub outer : List Entry → List Entry
  outer inner =
      map (λ p. record { component = p.0; expression = put_into inner p.1 })
      (zip (variables_of item.body) (image_of (edge_at edge) item).exprs)

  abbrev pub outer_fits : List Entry → Bool
  outer_fits inner = list_all (put_into_fits inner) (image_of (edge_at edge) item).exprs

  module _ (standing : List Entry)
      (same : expression_in standing ≡ expression_in groups_held.entries) where
    others_same : others_held standing ≡ others_held groups_held.entries
    others_same = worked_in_alike standing groups_held.entries same choice below
        (children_by edge item).others

    outer_fits_same : outer_fits standing ≡ outer_fits groups_held.entries
    outer_fits_same = ap (λ f. list_all f (image_of (edge_at edge) item).exprs)
        (into_fits_alike standing groups_held.entries same)

    outer_same : outer standing ≡ outer groups_held.entries
    outer_same =
        ap (λ f. map (λ p. record { component = p.0; expression = f p.1 })
        (zip (variables_of item.body) (image_of (edge_at edge) item).exprs))
        (into_alike standing groups_held.entries same)

    pub others_within : {P : Item → Type 0} → Splits choice below P edge item
        → All (λ child. P (put_in standing child)) (children_by edge item).others
    others_within {P} h =
        subst (λ f. All (λ child. P (f child)) (children_by edge item).others)
        (sym (put_alike standing groups_held.entries same)) h.others

    pub needs_others : IsTrue node.fits → IsTrue (others_held standing).fits
    needs_others t =
        ap (λ (h : Held Item Entry). h.fits) others_same
        ∙ and_second (outer_fits groups_held.entries) _ (and_second groups_held.fits _
        (and_second (image_fits edge item) _ t))

    pub needs_outer : IsTrue node.fits → IsTrue (outer_fits standing)
    needs_outer t =
        outer_fits_same
        ∙ and_first (outer_fits groups_held.entries) _ (and_second groups_held.fits _
        (and_second (image_fits edge item) _ t))

    pub node_planned : {plan one two three : Plan} {inner entries more : List Entry}
        → IsTrue (image_fits edge item)
        → one.leaves.items ≡ plan.leaves.items
        → one.nodes.items ≡ plan.nodes.items ++ kept_of (edge, item) ∷ []
        → IsTrue groups_held.fits → AddsHeld one two [] inner groups_held
        → IsTrue (others_held standing).fits → AddsHeld two three [] [] (others_held standing)
        → IsTrue (outer_fits standing) → more ≡ entries ++ outer standing
        → IsTrue node.fits × AddsHeld plan three entries more node
    node_planned {plan} {one} {two} {three} {inner} {entries} {more} image leaves nodes groups_fit
        groups others_fit others outer_fit put = (
          ap₂ ◌&&◌ image (ap₂ ◌&&◌ groups_fit (ap₂ ◌&&◌ (sym outer_fits_same ∙ outer_fit)
              (sym (ap (λ (h : Held Item Entry). h.fits) others_same) ∙ others_fit))),
          record {
            leaves = three_leaves;
            nodes = three_nodes;
            entries = put ∙ ap (λ l. entries ++ l) outer_same;
          },
        )
      where
        three_leaves : three.leaves.items ≡ plan.leaves.items ++ node.leaves
        three_leaves =
            others.leaves ∙ ap (λ l. l ++ (others_held standing).leaves) groups.leaves
            ∙ append_assoc one.leaves.items groups_held.leaves (others_held standing).leaves
            ∙ ap₂ (λ l m. l ++ (groups_held.leaves ++ m)) leaves
            (ap (λ (h : Held Item Entry). h.leaves) others_same)

        three_nodes : three.nodes.items ≡ plan.nodes.items ++ map kept_of node.nodes
        three_nodes =
            others.nodes ∙ ap (λ l. l ++ map kept_of (others_held standing).nodes) groups.nodes
            ∙ append_assoc one.nodes.items (map kept_of groups_held.nodes)
            (map kept_of (others_held standing).nodes)
            ∙ ap₂ (λ l m. l ++ (map kept_of groups_held.nodes ++ map kept_of m)) nodes
            (ap (λ (h : Held Item Entry). h.nodes) others_same)
            ∙ append_assoc plan.nodes.items (kept_of (edge, item) ∷ [])
            (map kept_of groups_held.nodes
            ++ map kept_of (others_held groups_held.entries).nodes)
            ∙ ap (λ l. plan.nodes.items ++ kept_of (edge, item) ∷ l)
            (sym (map-append kept_of groups_held.nodes
            (others_held groups_held.entries).nodes))

-- the node that was put stays at its place
module _ (before after_groups after : List KeptItem) (x : KeptItem) (groups others : List KeptItem)
    (first : after_groups ≡ (before ++ x ∷ []) ++ groups) (second : after ≡ after_groups ++ others)
  where
    standing_place : after ≡ before ++ x ∷ (groups ++ others)
    standing_place =
        second ∙ ap (λ l. l ++ others) first ∙ append_assoc (before ++ x ∷ []) groups others
        ∙ append_assoc before (x ∷ []) (groups ++ others)

    pub place_within : length before < length after
    place_within =
        omega (
          arith,
          ap length standing_place,
          length-append before (x ∷ (groups ++ others)),
        )

    pub placed : (d : KeptItem) → slice_index_or after (length before) d ≡ x
    placed d =
        ap (λ l. slice_index_or l (length before) d) standing_place
        ∙ get_or_at before x (groups ++ others) d (length before) refl
