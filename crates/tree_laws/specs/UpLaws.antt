-- Values up a bridging: where the leaves hold at a point or along a ray, the items do, and no leaf
-- objective costs less than the item's.
use Rattle.std.specs.Prelude.{◌≡◌, ℕ, true, false, List, [], ◌∷◌, ◌++◌, All, map, refl}
use Rattle.std.proofs.Common.{sym, ap, ap₂, subst, ◌∙◌, true≢false}
use Rattle.std.proofs.lemmas.List.Elements.{All-append, All-cons, All-head, All-nil, All-tail, All-weaker}
use Rattle.bridge_graph.specs.Hypergraph.{IsCostly}
use Rattle.bridge_graph.specs.declared.Choice.{Choice}
use Rattle.bridge_graph.specs.declared.Choice.TheVariants.{By}
use Rattle.expansion.specs.Bridged.{Bridged, EachBridged, EachBridgedIn, by, each, each_in, natively, none, none_in}
use Rattle.expansion.specs.Read.{leaves, leaves_in, leaves_of_each}
use Rattle.ratio_core.specs.Rational.{Rational, zero_ℚ, ◌≤ℚ◌}
use Rattle.rational_laws.specs.Order.{≤ℚ_refl, ≤ℚ_trans}
use Rattle.set_core.specs.Membership.{In}
use Rattle.set_core.specs.Mirrored.{multiplied}
use Rattle.aff_core.specs.Address.{Address}
use Rattle.aff_core.specs.Function.{evaluated}
use Rattle.aff_core.specs.FunctionLists.{evaluations}
use Rattle.linear_laws.specs.ListLaws.{evaluations-composed}
use Rattle.dual_laws.specs.Held.{AllHold, DualRow, Holds}
use Rattle.item_core.specs.declared.item.Body.{Body}
use Rattle.item_core.specs.declared.item.Body.TheVariants.{PlainObj, AffineObj}
use Rattle.item_core.specs.declared.item.Item.{Item}
use Rattle.item_core.specs.Item.{is_group, variables_of}
use Rattle.item_core.specs.Kind.{kind_number}
use Rattle.item_core.specs.KindOf.{kind_of_body}
use Rattle.bridge_face.specs.BackOf.{head_of}
use Rattle.bridge_face.specs.ImageOf.{image_of}
use Rattle.bridge_face.specs.Law.{ChildrenHold, HoldsAt, cost_of, held_body, held_item, inner_of, is_objective, listed, row_functions}
use Rattle.fresh_bridging.specs.CanLaws.{AreLawful}
use Rattle.map_laws.specs.EachLaws.{all_both, all_first, all_from_map, all_second}
use Rattle.fresh_bridging.specs.Entries.{Entry, function_in, put_in, put_in_body}
use Rattle.fresh_bridging.specs.TheRules.{AreChoices, Setting, edge_at, graph_of, outer_entries, own_entries, rules_by}
use Rattle.address_laws.specs.Apart.{Distinct, distinct-second}
use Rattle.address_laws.specs.KeyLaws.{IsHere, law_of, no_groups}
use Rattle.address_laws.specs.PutLaws.{objective_stays}
use Rattle.tree_laws.specs.Carried.{LeafAnswerDuals, group_held, group_helds, through}
use Rattle.tree_laws.specs.DownLaws.{first_through, rest_through}
use Rattle.tree_laws.specs.NodeLaws.{components_distinct}
use Rattle.tree_laws.specs.ObjectiveLaws.{CostsNothing, by_case, none_below, none_below_each}
use Rattle.tree_laws.specs.PutLaws.{held_put, row_functions_put}
use Rattle.tree_laws.specs.SeenLaws.{IsGroupHere, IsRowHere, child_groups_here, child_rows_here, groups_at, others_at}
use Rattle.address_laws.specs.ImageLaws.{rows_alone}
use Rattle.tree_laws.specs.TreeLaws.{all_untouched, misses, native_through, no_objective, outer_through, row_through}

-- values say nothing of duals, so any will do
abbrev no_duals : LeafAnswerDuals
no_duals = record {
  bound = zero_ℚ;
  objective = [];
  numbers = λ _. zero_ℚ;
  duals = λ _. [];
}

abbrev pub no_numbers : Address → Rational
no_numbers _ = zero_ℚ

-- an objective's function is its cost
pub cost_alone : (b : Body) → is_objective b ≡ true → row_functions b ≡ cost_of b ∷ []
cost_alone (PlainObj sense var) h = refl
cost_alone (AffineObj sense func) h = refl
cost_alone _ h = absurd (true≢false (sym h))

module _ (one : Rational) (a : zero_ℚ ≤ℚ one) (x : Address → Rational) where
  -- the point as the expressions have it
  abbrev pub point_in : List Entry → Address → Rational
  point_in entries u = evaluated one (function_in entries u) x

  pub to_point : (entries : List Entry) (h : DualRow) → Holds one (through entries h) x
      → Holds one h (point_in entries)
  to_point entries h k =
      subst (In (multiplied one h.set))
      (evaluations-composed (function_in entries) h.functions one x) k

  from_point : (entries : List Entry) (h : DualRow) → Holds one h (point_in entries)
      → Holds one (through entries h) x
  from_point entries h k =
      subst (In (multiplied one h.set))
      (sym (evaluations-composed (function_in entries) h.functions one x)) k

  -- a child objective costs at the expressions what it costs with them put in
  pub cost_put : (inner : List Entry) (c : Item) → is_group c.body ≡ false
      → is_objective c.body ≡ true
      → evaluated one (cost_of c.body) (point_in inner)
      ≡ evaluated one (cost_of (put_in inner c).body) x
  cost_put inner c row o =
      ap head_of
      (ap (λ fs. evaluations one fs (point_in inner)) (sym (cost_alone c.body o))
      ∙ sym (evaluations-composed (function_in inner) (row_functions c.body) one x)
      ∙ ap (λ fs. evaluations one fs x) (sym (row_functions_put inner c.body row))
      ∙ ap (λ fs. evaluations one fs x)
      (cost_alone (put_in_body inner c.body) (objective_stays inner c.body ∙ o)))

  -- leaves hold, but for objectives
  abbrev pub LeafHolds : Item → Type 0
  LeafHolds leaf = is_objective leaf.body ≡ false → HoldsAt one x leaf

  -- a leaf objective costs at least so much
  abbrev pub CostsAtLeast : Rational → Item → Type 0
  CostsAtLeast q leaf =
      is_objective leaf.body ≡ true → q ≤ℚ evaluated one (cost_of leaf.body) x

  module _ (setting : Setting) (costly : IsCostly (graph_of setting)) (choice : ℕ → Choice)
      (chosen : AreChoices setting choice) (lawful : AreLawful setting) where
    abbrev GroupThere : Item → Type 0
    GroupThere g = IsGroupHere setting costly choice chosen lawful g

    abbrev RowThere : Item → Type 0
    RowThere c = IsRowHere setting costly choice chosen lawful c

    abbrev pub GroupsHold : List Entry → List Item → Type 0
    GroupsHold entries groups =
        AllHold one (map (through entries) (group_helds zero_ℚ no_numbers groups)) x

    -- ---- children of an edge

    module _ (item : Item) (here : IsHere setting costly choice chosen lawful item) (n : ℕ)
        (e : choice (kind_number (kind_of_body item.body)) ≡ By n) (inner : List Entry) where
      abbrev groups : List Item
      groups = groups_at setting costly choice chosen lawful item here n e

      abbrev others : List Item
      others = others_at setting costly choice chosen lawful item here n e

      abbrev RowsHold : Type 0
      RowsHold = All (λ c. is_objective c.body ≡ false → HoldsAt one x (put_in inner c)) others

      child_at_point : (c : Item) → is_group c.body ≡ false → HoldsAt one x (put_in inner c)
          → HoldsAt one (point_in inner) c
      child_at_point c row k =
          to_point inner (held_body zero_ℚ c.body [])
          (subst (λ h. Holds one h x) (held_put inner zero_ℚ c.body [] row) k)

      children_at_point : GroupsHold inner groups → RowsHold
          → ChildrenHold one (point_in inner) (image_of (edge_at n) item)
      children_at_point g r =
          All-append (HoldsAt one (point_in inner)) groups (image_of (edge_at n) item).rows
          (All-weaker (λ c. Holds one (through inner (group_held zero_ℚ no_numbers c)) x)
          (HoldsAt one (point_in inner))
          (λ c k. to_point inner (group_held zero_ℚ no_numbers c) k) groups
          (all_from_map (λ h. Holds one (through inner h) x) (group_held zero_ℚ no_numbers) groups
          (all_from_map (λ h. Holds one h x) (through inner)
          (group_helds zero_ℚ no_numbers groups) g)))
          (All-weaker
          (λ c. (is_objective c.body ≡ false → HoldsAt one x (put_in inner c))
          × ((is_group c.body ≡ false) × (is_objective c.body ≡ false)))
          (HoldsAt one (point_in inner)) (λ c k. child_at_point c k.1.0 (k.0 k.1.1))
          (image_of (edge_at n) item).rows
          (all_both (λ c. is_objective c.body ≡ false → HoldsAt one x (put_in inner c))
          (λ c. (is_group c.body ≡ false) × (is_objective c.body ≡ false))
          (image_of (edge_at n) item).rows
          (all_first (λ c. is_objective c.body ≡ false → HoldsAt one x (put_in inner c))
          (image_of (edge_at n) item).rows (listed (image_of (edge_at n) item).objective) r)
          (all_both (λ c. is_group c.body ≡ false) (λ c. is_objective c.body ≡ false)
          (image_of (edge_at n) item).rows
          (all_first (λ c. is_group c.body ≡ false) (image_of (edge_at n) item).rows
          (listed (image_of (edge_at n) item).objective)
          (no_groups setting costly choice chosen lawful item here.can n e))
          (rows_alone setting costly choice chosen lawful item here.can n e))))

      node_holds : (w : List Rational) → is_objective item.body ≡ false → GroupsHold inner groups
          → RowsHold
          → Holds one (through inner (held_item zero_ℚ item (image_of (edge_at n) item) w)) x
      node_holds w h g r =
          from_point inner (held_item zero_ℚ item (image_of (edge_at n) item) w)
          ((law_of setting costly choice chosen lawful item here.can n e).values.holds h one
          (point_in inner) a (children_at_point g r))

      pub groups_apart_here : (gs : EachBridged (rules_by choice) groups inner)
          (os : EachBridgedIn (rules_by choice) inner others) → Distinct (inner_of groups)
      groups_apart_here gs os =
          components_distinct setting costly choice chosen lawful no_duals item here n e inner gs os

      -- ---- costs

      costs_at_point : GroupsHold inner groups → RowsHold
          → All (λ c. evaluated one (cost_of item.body) (point_in inner)
          ≤ℚ evaluated one (cost_of c.body) (point_in inner))
          (listed (image_of (edge_at n) item).objective)
      costs_at_point g r =
          (law_of setting costly choice chosen lawful item here.can n e).values.costs one
          (point_in inner) a (children_at_point g r)

    module _ (item : Item) (is : IsRowHere setting costly choice chosen lawful item) (n : ℕ)
        (e : choice (kind_number (kind_of_body item.body)) ≡ By n) (inner : List Entry)
        (gs : EachBridged (rules_by choice)
        (groups_at setting costly choice chosen lawful item is.here n e) inner) where
      row_node_holds : is_objective item.body ≡ false
          → GroupsHold inner (groups_at setting costly choice chosen lawful item is.here n e)
          → All (λ c. is_objective c.body ≡ false → HoldsAt one x (put_in inner c))
          (others_at setting costly choice chosen lawful item is.here n e)
          → HoldsAt one x item
      row_node_holds h g r =
          subst (λ k. Holds one k x)
          (row_through setting costly choice chosen lawful no_duals item is n e inner gs [])
          (node_holds item is.here n e inner [] h g r)

      item_cost : is_objective item.body ≡ true
          → evaluated one (cost_of item.body) (point_in inner)
          ≡ evaluated one (cost_of item.body) x
      item_cost o =
          ap head_of
          (ap (λ fs. evaluations one fs (point_in inner)) (sym (cost_alone item.body o))
          ∙ sym (evaluations-composed (function_in inner) (row_functions item.body) one x)
          ∙ ap (λ fs. evaluations one fs x)
          (all_untouched setting costly choice chosen lawful no_duals item is n e inner gs []
          (row_functions item.body)
          (misses setting costly choice chosen lawful no_duals item is n e))
          ∙ ap (λ fs. evaluations one fs x) (cost_alone item.body o))

      -- no further child costs less
      others_cost : is_objective item.body ≡ true
          → GroupsHold inner (groups_at setting costly choice chosen lawful item is.here n e)
          → All (λ c. is_objective c.body ≡ false → HoldsAt one x (put_in inner c))
          (others_at setting costly choice chosen lawful item is.here n e)
          → All (λ c. CostsAtLeast (evaluated one (cost_of item.body) x) (put_in inner c))
          (others_at setting costly choice chosen lawful item is.here n e)
      others_cost o g r =
          All-append (λ c. CostsAtLeast (evaluated one (cost_of item.body) x) (put_in inner c))
          (image_of (edge_at n) item).rows (listed (image_of (edge_at n) item).objective)
          (All-weaker (λ c. is_objective c.body ≡ false)
          (λ c. CostsAtLeast (evaluated one (cost_of item.body) x) (put_in inner c))
          (λ c row k. absurd (true≢false (sym k ∙ objective_stays inner c.body ∙ row)))
          (image_of (edge_at n) item).rows
          (rows_alone setting costly choice chosen lawful item is.here.can n e))
          (All-weaker
          (λ c. (evaluated one (cost_of item.body) (point_in inner)
          ≤ℚ evaluated one (cost_of c.body) (point_in inner)) × (is_group c.body ≡ false))
          (λ c. CostsAtLeast (evaluated one (cost_of item.body) x) (put_in inner c))
          (λ c k t. subst (λ q. q ≤ℚ evaluated one (cost_of (put_in inner c).body) x) (item_cost o)
          (subst (λ q. evaluated one (cost_of item.body) (point_in inner) ≤ℚ q)
          (cost_put inner c k.1 (sym (objective_stays inner c.body) ∙ t)) k.0))
          (listed (image_of (edge_at n) item).objective)
          (all_both
          (λ c. evaluated one (cost_of item.body) (point_in inner)
          ≤ℚ evaluated one (cost_of c.body) (point_in inner))
          (λ c. is_group c.body ≡ false) (listed (image_of (edge_at n) item).objective)
          (costs_at_point item is.here n e inner g r)
          (all_second (λ c. is_group c.body ≡ false) (image_of (edge_at n) item).rows
          (listed (image_of (edge_at n) item).objective)
          (no_groups setting costly choice chosen lawful item is.here.can n e))))

    module _ (item : Item) (is : IsGroupHere setting costly choice chosen lawful item) (n : ℕ)
        (e : choice (kind_number (kind_of_body item.body)) ≡ By n) (inner : List Entry) where
      group_node_holds : GroupsHold inner
          (groups_at setting costly choice chosen lawful item is.here n e)
          → All (λ c. is_objective c.body ≡ false → HoldsAt one x (put_in inner c))
          (others_at setting costly choice chosen lawful item is.here n e)
          → Holds one (through (outer_entries n item inner) (group_held zero_ℚ no_numbers item)) x
      group_node_holds g r =
          subst (λ k. Holds one k x)
          (sym (outer_through setting costly choice chosen lawful no_duals item is n e inner
          no_numbers))
          (node_holds item is.here n e inner (map no_numbers (variables_of item.body))
          (no_objective item.body is.group) g r)

    -- ---- along the tree

    groups_hold_both : {item : Item} {items : List Item} {entries others : List Entry}
        (first : Bridged (rules_by choice) item entries)
        (rest : EachBridged (rules_by choice) items others)
        → All GroupThere (item ∷ items) → Distinct (inner_of (item ∷ items))
        → Holds one (through entries (group_held zero_ℚ no_numbers item)) x
        → GroupsHold others items → GroupsHold (entries ++ others) (item ∷ items)
    groups_hold_both {item} {items} {entries} {others} first rest all distinct h k =
        subst (λ hs. AllHold one hs x)
        (sym (ap₂ ◌∷◌
        (first_through setting costly choice chosen lawful no_duals first rest all no_numbers)
        (rest_through setting costly choice chosen lawful no_duals first rest all no_numbers
        distinct)))
        (All-cons (λ g. Holds one g x) (through entries (group_held zero_ℚ no_numbers item))
        (map (through others) (group_helds zero_ℚ no_numbers items)) h k)

    native_group_holds : (item : Item) → GroupThere item → All LeafHolds (item ∷ [])
        → Holds one (through (own_entries item) (group_held zero_ℚ no_numbers item)) x
    native_group_holds item is h =
        subst (λ k. Holds one k x) (sym (native_through zero_ℚ no_numbers item is.group))
        (All-head LeafHolds item [] h (no_objective item.body is.group))

    mutual
      unfolding leaves

      pub row_holds : {item : Item} {entries : List Entry}
          (tree : Bridged (rules_by choice) item entries) → RowThere item
          → is_objective item.body ≡ false → All LeafHolds (leaves tree) → HoldsAt one x item
      row_holds (natively {item} c) is o h = All-head LeafHolds item [] h o
      row_holds (by {item} {edge} {inner} c groups others) is o h =
          row_node_holds item is edge c inner groups o
          (groups_hold groups (child_groups_here setting costly choice chosen lawful item is.here
          edge c)
          (groups_apart_here item is.here edge c inner groups others)
          (all_first LeafHolds (leaves_of_each groups) (leaves_in others) h))
          (rows_hold others
          (child_rows_here setting costly choice chosen lawful item is.here edge c inner groups)
          (all_second LeafHolds (leaves_of_each groups) (leaves_in others) h))

      pub rows_hold : {inner : List Entry} {items : List Item}
          (trees : EachBridgedIn (rules_by choice) inner items)
          → All (λ c. RowThere (put_in inner c)) items → All LeafHolds (leaves_in trees)
          → All (λ c. is_objective c.body ≡ false → HoldsAt one x (put_in inner c)) items
      rows_hold {inner} none_in all h =
          All-nil (λ c. is_objective c.body ≡ false → HoldsAt one x (put_in inner c))
      rows_hold (each_in {inner} {item} {items} first rest) all h =
          All-cons (λ c. is_objective c.body ≡ false → HoldsAt one x (put_in inner c)) item items
          (λ o. row_holds first (All-head (λ c. RowThere (put_in inner c)) item items all)
          (objective_stays inner item.body ∙ o)
          (all_first LeafHolds (leaves first) (leaves_in rest) h))
          (rows_hold rest (All-tail (λ c. RowThere (put_in inner c)) item items all)
          (all_second LeafHolds (leaves first) (leaves_in rest) h))

      pub group_holds : {group : Item} {entries : List Entry}
          (tree : Bridged (rules_by choice) group entries) → GroupThere group
          → All LeafHolds (leaves tree)
          → Holds one (through entries (group_held zero_ℚ no_numbers group)) x
      group_holds (natively {item} c) is h = native_group_holds item is h
      group_holds (by {item} {edge} {inner} c groups others) is h =
          group_node_holds item is edge c inner
          (groups_hold groups (child_groups_here setting costly choice chosen lawful item is.here
          edge c)
          (groups_apart_here item is.here edge c inner groups others)
          (all_first LeafHolds (leaves_of_each groups) (leaves_in others) h))
          (rows_hold others
          (child_rows_here setting costly choice chosen lawful item is.here edge c inner groups)
          (all_second LeafHolds (leaves_of_each groups) (leaves_in others) h))

      pub groups_hold : {groups : List Item} {entries : List Entry}
          (trees : EachBridged (rules_by choice) groups entries) → All GroupThere groups
          → Distinct (inner_of groups) → All LeafHolds (leaves_of_each trees)
          → GroupsHold entries groups
      groups_hold none all distinct h = All-nil (λ g. Holds one g x)
      groups_hold (each {item} {items} {entries} {others} first rest) all distinct h =
          groups_hold_both first rest all distinct
          (group_holds first (All-head GroupThere item items all)
          (all_first LeafHolds (leaves first) (leaves_of_each rest) h))
          (groups_hold rest (All-tail GroupThere item items all)
          (distinct-second (variables_of item.body) (inner_of items) distinct)
          (all_second LeafHolds (leaves first) (leaves_of_each rest) h))

    -- ---- objectives

    vacuous : (q : Rational) (items : List Item) → All CostsNothing items
        → All (CostsAtLeast q) items
    vacuous q items h =
        All-weaker CostsNothing (CostsAtLeast q) (λ i k t. absurd (true≢false (sym t ∙ k))) items h

    raised : (p q : Rational) (items : List Item) → p ≤ℚ q → All (CostsAtLeast q) items
        → All (CostsAtLeast p) items
    raised p q items h all =
        All-weaker (CostsAtLeast q) (CostsAtLeast p)
        (λ i k t. ≤ℚ_trans p q (evaluated one (cost_of i.body) x) h (k t)) items all

    mutual
      unfolding leaves

      -- no leaf objective below an objective costs less
      pub costs : {item : Item} {entries : List Entry}
          (tree : Bridged (rules_by choice) item entries) → RowThere item
          → is_objective item.body ≡ true → All LeafHolds (leaves tree)
          → All (CostsAtLeast (evaluated one (cost_of item.body) x)) (leaves tree)
      costs (natively {item} c) is o h =
          All-cons (CostsAtLeast (evaluated one (cost_of item.body) x)) item []
          (λ t. ≤ℚ_refl (evaluated one (cost_of item.body) x))
          (All-nil (CostsAtLeast (evaluated one (cost_of item.body) x)))
      costs (by {item} {edge} {inner} c groups others) is o h =
          let gs = child_groups_here setting costly choice chosen lawful item is.here edge c in
          let rs = child_rows_here setting costly choice chosen lawful item is.here edge c inner
          groups
          in
          let low = all_second LeafHolds (leaves_of_each groups) (leaves_in others) h in
          All-append (CostsAtLeast (evaluated one (cost_of item.body) x)) (leaves_of_each groups)
          (leaves_in others)
          (vacuous (evaluated one (cost_of item.body) x) (leaves_of_each groups)
          (none_below_each setting costly choice chosen lawful groups gs))
          (costs_in others (evaluated one (cost_of item.body) x) rs
          (others_cost item is edge c inner groups o
          (groups_hold groups gs (groups_apart_here item is.here edge c inner groups others)
          (all_first LeafHolds (leaves_of_each groups) (leaves_in others) h))
          (rows_hold others rs low)) low)

      pub costs_in : {inner : List Entry} {items : List Item}
          (trees : EachBridgedIn (rules_by choice) inner items) (q : Rational)
          → All (λ c. RowThere (put_in inner c)) items
          → All (λ c. CostsAtLeast q (put_in inner c)) items → All LeafHolds (leaves_in trees)
          → All (CostsAtLeast q) (leaves_in trees)
      costs_in none_in q all k h = All-nil (CostsAtLeast q)
      costs_in (each_in {inner} {item} {items} first rest) q all k h =
          let there = All-head (λ c. RowThere (put_in inner c)) item items all in
          let low = all_first LeafHolds (leaves first) (leaves_in rest) h in
          All-append (CostsAtLeast q) (leaves first) (leaves_in rest)
          (by_case (is_objective (put_in inner item).body) refl
          (λ o. raised q (evaluated one (cost_of (put_in inner item).body) x) (leaves first)
          (All-head (λ c. CostsAtLeast q (put_in inner c)) item items k o)
          (costs first there o low))
          (λ o. vacuous q (leaves first)
          (none_below setting costly choice chosen lawful first there.here o)))
          (costs_in rest q (All-tail (λ c. RowThere (put_in inner c)) item items all)
          (All-tail (λ c. CostsAtLeast q (put_in inner c)) item items k)
          (all_second LeafHolds (leaves first) (leaves_in rest) h))
