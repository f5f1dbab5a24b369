-- The first of the user's items that has no tree, by the kinds that are given for them.
use Rattle.std.specs.Prelude.{◌≡◌, ℕ, Bool, true, false, cond, List, [], ◌∷◌, ◌++◌, All, map, Option, Some, None, refl}
use Rattle.std.proofs.Common.{ap, ap₂, sym, ◌∙◌, true≢false}
use Rattle.std.specs.Option.{option_or}
use Rattle.std.proofs.lemmas.List.Elements.{All-cons, All-nil}
use Rattle.std.proofs.lemmas.List.Folds.{find-append}
use Rattle.std.proofs.lemmas.Option.{none-some, same_Some}
use Rattle.bridge_graph.specs.Hypergraph.{IsCostly}
use Rattle.bridge_graph.specs.Tree.{IsTreeless, by as by_edge, native}
use Rattle.bridge_graph.specs.declared.Choice.{Choice}
use Rattle.bridge_graph.specs.declared.Choice.TheVariants.{By, Missing, Native}
use Rattle.expansion.specs.Bridged.{EachBridged}
use Rattle.item_core.specs.declared.item.Item.{Item}
use Rattle.item_core.specs.declared.kind.Kind.{Kind}
use Rattle.item_core.specs.Kind.{kind_number}
use Rattle.item_core.specs.KindOf.{kind_of_body}
use Rattle.user_model.specs.Model.{ModelValue}
use Rattle.user_model.specs.Valid.{IsValid}
use Rattle.fresh_bridging.specs.CanLaws.{AreLawful}
use Rattle.map_laws.specs.EachLaws.{all_from_map}
use Rattle.fresh_bridging.specs.Entries.{Entry, put_in}
use Rattle.fresh_bridging.specs.ExistenceLaws.{groups_bridged, groups_can_all}
use Rattle.fresh_bridging.specs.FreshBridging.{HasTree, IsFirstTreeless, IsUnsupported, by_group, by_other}
use Rattle.fresh_bridging.specs.ModelImage.{model_image}
use Rattle.fresh_bridging.specs.TheRules.{AreChoices, IsChoice, Setting, graph_of, rules_by}
use Rattle.model_bridging.specs.Kinds.{first_missing, is_kept_by, is_missing, kept_as_told, kind_by, kind_by_is, kinds_as_they_stand, kinds_told}

-- ---- of two lists

module _ (choice : ℕ → Choice) (xs ys : List Kind) where
  abbrev lacks : Kind → Bool
  lacks k = is_missing (choice (kind_number k))

  pub missing_past : first_missing choice xs ≡ None
      → first_missing choice (xs ++ ys) ≡ first_missing choice ys
  missing_past e =
      find-append lacks xs ys ∙ ap (λ o. option_or o (first_missing choice ys)) e

  pub missing_first : (kind : Kind) → first_missing choice xs ≡ Some kind
      → first_missing choice (xs ++ ys) ≡ Some kind
  missing_first kind e =
      find-append lacks xs ys ∙ ap (λ o. option_or o (first_missing choice ys)) e

-- ---- of items, by their kinds as they stand

module _ (setting : Setting) (choice : ℕ → Choice) (chosen : AreChoices setting choice) where
  abbrev HasTreeHere : Item → Type 0
  HasTreeHere item = HasTree (graph_of setting) item

  abbrev lacks_tree : Item → Bool
  lacks_tree item = is_missing (choice (kind_number (kind_of_body item.body)))

  chosen_tree : (item : Item) (c : Choice)
      → IsChoice (graph_of setting) (kind_number (kind_of_body item.body)) c
      → is_missing c ≡ false → HasTreeHere item
  chosen_tree item Native h e = (0, native h)
  chosen_tree item (By edge) h e = (h.0, by_edge h.1.tree)
  chosen_tree item Missing h e = absurd (true≢false e)

  tree_there : (item : Item) → lacks_tree item ≡ false → HasTreeHere item
  tree_there item e =
      chosen_tree item (choice (kind_number (kind_of_body item.body)))
      (chosen (kind_number (kind_of_body item.body))) e

  chosen_none : (item : Item) (c : Choice)
      → IsChoice (graph_of setting) (kind_number (kind_of_body item.body)) c
      → is_missing c ≡ true → IsTreeless (graph_of setting) (kind_number (kind_of_body item.body))
  chosen_none item Native h e = absurd (true≢false (sym e))
  chosen_none item (By edge) h e = absurd (true≢false (sym e))
  chosen_none item Missing h e = h

  no_tree_there : (item : Item) → lacks_tree item ≡ true
      → IsTreeless (graph_of setting) (kind_number (kind_of_body item.body))
  no_tree_there item e =
      chosen_none item (choice (kind_number (kind_of_body item.body)))
      (chosen (kind_number (kind_of_body item.body))) e

  pub trees_there : (items : List Item)
      → first_missing choice (kinds_as_they_stand items) ≡ None → All HasTreeHere items
  trees_there [] e = All-nil HasTreeHere
  trees_there (item ∷ items) e = by (lacks_tree item) refl e (trees_there items)
    where
      by : (b : Bool) → lacks_tree item ≡ b
          → cond b (Some (kind_of_body item.body))
          (first_missing choice (kinds_as_they_stand items)) ≡ None
          → (first_missing choice (kinds_as_they_stand items) ≡ None → All HasTreeHere items)
          → All HasTreeHere (item ∷ items)
      by true m e later = absurd (none-some (kind_of_body item.body) (sym e))
      by false m e later = All-cons HasTreeHere item items (tree_there item m) (later e)

  pub first_treeless : (items : List Item) (kind : Kind)
      → first_missing choice (kinds_as_they_stand items) ≡ Some kind
      → IsFirstTreeless (graph_of setting) items kind
  first_treeless [] kind e = absurd (none-some kind e)
  first_treeless (item ∷ items) kind e = by (lacks_tree item) refl e (first_treeless items kind)
    where
      by : (b : Bool) → lacks_tree item ≡ b
          → cond b (Some (kind_of_body item.body))
          (first_missing choice (kinds_as_they_stand items)) ≡ Some kind
          → (first_missing choice (kinds_as_they_stand items) ≡ Some kind
          → IsFirstTreeless (graph_of setting) items kind)
          → IsFirstTreeless (graph_of setting) (item ∷ items) kind
      by true m e later = record {
        before = [];
        item = item;
        after = items;
        parts = refl;
        earlier = All-nil HasTreeHere;
        none = no_tree_there item m;
        kind_is = sym (same_Some (kind_of_body item.body) kind e);
      }
      by false m e later =
          let rest = later e in
          record {
            before = item ∷ rest.before;
            item = rest.item;
            after = rest.after;
            parts = ap (λ l. item ∷ l) rest.parts;
            earlier = All-cons HasTreeHere item rest.before (tree_there item m) rest.earlier;
            none = rest.none;
            kind_is = rest.kind_is;
          }

-- ---- of the user's items

module _ (setting : Setting) (costly : IsCostly (graph_of setting)) (choice : ℕ → Choice)
    (chosen : AreChoices setting choice) (lawful : AreLawful setting)
    (model : ModelValue) (valid : IsValid model) where
  abbrev groups_here : List Item
  groups_here = (model_image model).groups

  abbrev others_here : List Item
  others_here = (model_image model).others

  -- the kinds that are given for rows and the objective are those that they have
  told_kinds : (kept : _) (entries : List Entry) (items : List Item)
      → ((i : Item) → kind_by kept i.body ≡ kind_of_body (put_in entries i).body)
      → map (λ i. kind_by kept i.body) items ≡ kinds_as_they_stand (map (put_in entries) items)
  told_kinds kept entries [] h = refl
  told_kinds kept entries (item ∷ items) h =
      ap₂ (λ k ks. k ∷ ks) (h item) (told_kinds kept entries items h)

  module _ (entries : List Entry) (trees : EachBridged (rules_by choice) groups_here entries)
      (groups : All (HasTree (graph_of setting)) groups_here) where
    pub told_of_others : map (λ i. kind_by (is_kept_by choice groups_here) i.body) others_here
        ≡ kinds_as_they_stand (map (put_in entries) others_here)
    told_of_others =
        told_kinds (is_kept_by choice groups_here) entries others_here
        (λ i. kind_by_is entries (is_kept_by choice groups_here)
        (kept_as_told setting costly choice chosen lawful trees
        (groups_can_all setting costly choice chosen lawful model valid groups)) i.body)

    others_told : first_missing choice (kinds_as_they_stand groups_here) ≡ None
        → first_missing choice (kinds_told choice groups_here others_here)
        ≡ first_missing choice (kinds_as_they_stand (map (put_in entries) others_here))
    others_told none =
        missing_past choice (kinds_as_they_stand groups_here)
        (map (λ i. kind_by (is_kept_by choice groups_here) i.body) others_here) none
        ∙ ap (first_missing choice) told_of_others

    pub others_have_trees : first_missing choice (kinds_as_they_stand groups_here) ≡ None
        → first_missing choice (kinds_told choice groups_here others_here) ≡ None
        → All (λ item. HasTree (graph_of setting) (put_in entries item)) others_here
    others_have_trees none all =
        all_from_map (HasTree (graph_of setting)) (put_in entries) others_here
        (trees_there setting choice chosen (map (put_in entries) others_here)
        (sym (others_told none) ∙ all))

  -- each group has a tree where none of all items lacks one
  pub groups_found : first_missing choice (kinds_told choice groups_here others_here) ≡ None
      → first_missing choice (kinds_as_they_stand groups_here) ≡ None
  groups_found e = by (first_missing choice (kinds_as_they_stand groups_here)) refl
    where
      by : (o : Option Kind) → first_missing choice (kinds_as_they_stand groups_here) ≡ o
          → first_missing choice (kinds_as_they_stand groups_here) ≡ None
      by None is = is
      by (Some kind) is =
          absurd (none-some kind (sym e ∙ missing_first choice (kinds_as_they_stand groups_here)
          (map (λ i. kind_by (is_kept_by choice groups_here) i.body) others_here) kind is))

  pub unsupported : (kind : Kind)
      → first_missing choice (kinds_told choice groups_here others_here) ≡ Some kind
      → IsUnsupported setting model kind
  unsupported kind e = by (first_missing choice (kinds_as_they_stand groups_here)) refl
    where
      by : (o : Option Kind) → first_missing choice (kinds_as_they_stand groups_here) ≡ o
          → IsUnsupported setting model kind
      by None is =
          let trees = trees_there setting choice chosen groups_here is in
          let made = groups_bridged setting costly choice chosen lawful model valid trees in
          by_other choice chosen made.0 made.1
          (first_treeless setting choice chosen (map (put_in made.0) others_here) kind
          (sym (others_told made.0 made.1 trees is) ∙ e))
      by (Some first) is =
          let same = same_Some first kind (sym (missing_first choice
          (kinds_as_they_stand groups_here)
          (map (λ i. kind_by (is_kept_by choice groups_here) i.body) others_here) first is) ∙ e) in
          by_group (first_treeless setting choice chosen groups_here kind (is ∙ ap Some same))
