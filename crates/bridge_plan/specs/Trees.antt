-- What is worked out within some levels is what a bridging holds; and items that are ranked stand
-- within as many levels as there are ranks below.
use Rattle.std.specs.Prelude.{◌≡◌, ℕ, zero, suc, ◌<◌, List, [], ◌∷◌, All, refl}
use Rattle.std.proofs.Common.{arith, ap, ap₂, subst}
use Rattle.std.proofs.lemmas.List.Elements.{All-head, All-tail, All-weaker}
use Rattle.bridge_graph.specs.declared.Choice.{Choice}
use Rattle.bridge_graph.specs.declared.Choice.TheVariants.{By, Missing, Native}
use Rattle.expansion.specs.Bridged.{Bridged, EachBridged, EachBridgedIn, by, each, each_in, natively, none, none_in}
use Rattle.expansion.specs.Grown.{Held, joined, node_held, put_held}
use Rattle.expansion.specs.GrownLaws.{held, held_each, held_in}
use Rattle.expansion.specs.Ranks.{IsRanked, RanksBelow}
use Rattle.expansion.specs.Read.{fits, leaves, nodes}
use Rattle.item_core.specs.declared.item.Item.{Item}
use Rattle.item_core.specs.Kind.{kind_number}
use Rattle.item_core.specs.KindOf.{kind_of_body}
use Rattle.bridge_face.specs.Law.{IsItemFor}
use Rattle.fresh_bridging.specs.Entries.{Entry, put_in}
use Rattle.fresh_bridging.specs.TheRules.{children_by, edge_at, rules_by}
use Rattle.bridge_plan.specs.Worked.{IsItemWithinLevels, Splits, StandsBy, worked, worked_by, worked_each, worked_in, worked_node}

module _ (choice : ℕ → Choice) where
  -- a bridging of the item, or of several, that holds this
  pub record HasBridging (item : Item) (h : Held Item Entry) : Type 0 where
    pub entries : List Entry
    pub tree : Bridged (rules_by choice) item entries
    pub holds : held tree ≡ h

  pub record HaveBridgings (items : List Item) (h : Held Item Entry) : Type 0 where
    pub entries : List Entry
    pub trees : EachBridged (rules_by choice) items entries
    pub hold : held_each trees ≡ h

  pub record HaveBridgingsIn (inner : List Entry) (items : List Item)
      (h : Held Item Entry) : Type 0 where
    pub trees : EachBridgedIn (rules_by choice) inner items
    pub hold : held_in trees ≡ h

  module _ (below : Item → Held Item Entry) (P : Item → Type 0)
      (bridged : (item : Item) → P item → HasBridging item (below item)) where
    pub each_bridged : (items : List Item) → All P items
        → HaveBridgings items (worked_each choice below items)
    unfolding worked_each leaves nodes fits
    each_bridged [] all = record { entries = []; trees = none; hold = refl }
    each_bridged (item ∷ items) all =
        let first = bridged item (All-head P item items all) in
        let rest = each_bridged items (All-tail P item items all) in
        record {
          entries = _;
          trees = each first.tree rest.trees;
          hold = ap₂ joined first.holds rest.hold;
        }

    pub in_bridged : (inner : List Entry) (items : List Item)
        → All (λ child. P (put_in inner child)) items
        → HaveBridgingsIn inner items (worked_in choice below inner items)
    unfolding worked_in leaves nodes fits
    in_bridged inner [] all = record { trees = none_in; hold = refl }
    in_bridged inner (item ∷ items) all =
        let Q : Item → Type 0 = λ child. P (put_in inner child) in
        let first = bridged (put_in inner item) (All-head Q item items all) in
        let rest = in_bridged inner items (All-tail Q item items all) in
        record {
          trees = each_in first.tree rest.trees;
          hold = ap₂ (λ f r. joined (put_held (rules_by choice) inner item f) r) first.holds
              rest.hold;
        }

    node_bridged : (edge : ℕ) (item : Item)
        → choice (kind_number (kind_of_body item.body)) ≡ By edge
        → Splits choice below P edge item
        → HasBridging item (worked_node choice below edge item)
    unfolding leaves nodes fits
    node_bridged edge item c splits =
        let groups = each_bridged (children_by edge item).groups splits.groups in
        subst Made groups.hold (made groups.entries groups.trees) splits.others
      where
        -- by what the groups hold
        Made : Held Item Entry → Type 0
        Made groups =
            All (λ child. P (put_in groups.entries child)) (children_by edge item).others
            → HasBridging item (node_held (rules_by choice) edge item groups
            (worked_in choice below groups.entries (children_by edge item).others))

        made : (inner : List Entry)
            (groups : EachBridged (rules_by choice) (children_by edge item).groups inner)
            → Made (held_each groups)
        made inner groups all =
            let others = in_bridged inner (children_by edge item).others all in
            record {
              entries = _;
              tree = by c groups others.trees;
              holds = ap (node_held (rules_by choice) edge item (held_each groups)) others.hold;
            }

    by_choice : (c : Choice) (item : Item) → choice (kind_number (kind_of_body item.body)) ≡ c
        → StandsBy choice below P c item
        → HasBridging item (worked_by choice below c item)
    unfolding leaves nodes fits StandsBy worked_by
    by_choice Native item e h = record { entries = _; tree = natively e; holds = refl }
    by_choice (By edge) item e h = node_bridged edge item e h
    by_choice Missing item e h = absurd h

  pub within_bridged : (n : ℕ) (item : Item) → IsItemWithinLevels choice n item
      → HasBridging item (worked choice n item)
  unfolding IsItemWithinLevels worked
  within_bridged zero item h = absurd h
  within_bridged (suc n) item h =
      by_choice (worked choice n) (IsItemWithinLevels choice n) (within_bridged n)
      (choice (kind_number (kind_of_body item.body))) item refl h

  -- ---- ranked items

  module _ (Can : Item → Type 0) (rank level : Item → ℕ)
      (ranked : IsRanked (rules_by choice) Can rank)
      (suits : (item : Item) (edge : ℕ) → Can item
      → choice (kind_number (kind_of_body item.body)) ≡ By edge → IsItemFor (edge_at edge) item)
      (lower : (item child : Item) → RanksBelow Can rank (rank item) child
      → level child < level item) where
    by_kind : (n : ℕ) (item : Item) → Can item
        → ((child : Item) → RanksBelow Can rank (rank item) child → IsItemWithinLevels choice n child)
        → (c : Choice) → choice (kind_number (kind_of_body item.body)) ≡ c
        → StandsBy choice (worked choice n) (IsItemWithinLevels choice n) c item
    unfolding StandsBy
    by_kind n item can lowered Native e = tt
    by_kind n item can lowered (By edge) e =
        let groups = All-weaker (RanksBelow Can rank (rank item)) (IsItemWithinLevels choice n) lowered
        (children_by edge item).groups (ranked.groups item edge can e) in
        let trees = each_bridged (worked choice n) (IsItemWithinLevels choice n) (within_bridged n)
        (children_by edge item).groups groups in
        let Within : Held Item Entry → Type 0 = λ w.
        All (λ child. IsItemWithinLevels choice n (put_in w.entries child)) (children_by edge item).others in
        record {
          suits = suits item edge can e;
          groups = groups;
          others = subst Within trees.hold
              (All-weaker (λ child. RanksBelow Can rank (rank item) (put_in trees.entries child))
              (λ child. IsItemWithinLevels choice n (put_in trees.entries child))
              (λ child b. lowered (put_in trees.entries child) b)
              (children_by edge item).others
              (ranked.others item edge trees.entries can e trees.trees));
        }
    by_kind n item can lowered Missing e = absurd (ranked.chosen item can e)

    pub ranked_within : (n : ℕ) (item : Item) → Can item → level item < n
        → IsItemWithinLevels choice n item
    unfolding IsItemWithinLevels
    ranked_within zero item can h = absurd (omega (arith, h))
    ranked_within (suc n) item can h =
        by_kind n item can
        (λ child b. ranked_within n child b.can (omega (arith, lower item child b, h)))
        (choice (kind_number (kind_of_body item.body))) refl
