-- A valid model has a fresh bridging, or an item without a tree is the first of the user's; never
-- both.
use Rattle.std.specs.Prelude.{◌≡◌, ◌⊎◌, ℕ, List, [], ◌∷◌, All, map, refl}
use Rattle.std.proofs.Common.{inl, inr, ap, subst}
use Rattle.std.proofs.lemmas.List.Elements.{All-cons, All-head, All-map, All-nil}
use Rattle.bridge_graph.specs.Hypergraph.{Hypergraph, IsCostly}
use Rattle.bridge_graph.specs.Tree.{IsTreeless, by, native}
use Rattle.bridge_graph.specs.declared.Choice.{Choice}
use Rattle.bridge_graph.specs.declared.Choice.TheVariants.{By, Missing, Native}
use Rattle.expansion.specs.Bridged.{EachBridged}
use Rattle.expansion.specs.GrownLaws.{held_each_once}
use Rattle.item_core.specs.declared.item.Item.{Item}
use Rattle.item_core.specs.declared.kind.Kind.{Kind}
use Rattle.item_core.specs.Kind.{kind_number}
use Rattle.item_core.specs.KindOf.{kind_of_body}
use Rattle.user_model.specs.Model.{ModelValue}
use Rattle.user_model.specs.Valid.{IsValid}
use Rattle.fresh_bridging.specs.CanLaws.{AreLawful}
use Rattle.fresh_bridging.specs.ChoiceLaws.{one_choice}
use Rattle.map_laws.specs.EachLaws.{all_from_map, all_second}
use Rattle.fresh_bridging.specs.Entries.{Entry, put_in}
use Rattle.fresh_bridging.specs.ExistenceLaws.{bridged_by_trees, groups_bridged, trees_of_bridged}
use Rattle.fresh_bridging.specs.FreshBridging.{FreshBridging, HasTree, IsFirstTreeless, IsUnsupported, by_group, by_other}
use Rattle.fresh_bridging.specs.ModelImage.{model_image}
use Rattle.fresh_bridging.specs.TheRules.{AreChoices, IsChoice, Setting, graph_of, rules_by}

module _ (graph : Hypergraph) (choice : ℕ → Choice)
    (chosen : (kind : ℕ) → IsChoice graph kind (choice kind)) where
  -- an item has a tree, or its kind has none
  one_item : (item : Item)
      → HasTree graph item ⊎ IsTreeless graph (kind_number (kind_of_body item.body))
  one_item item = by_choice (choice (kind_number (kind_of_body item.body)))
      (chosen (kind_number (kind_of_body item.body)))
    where
      by_choice : (c : Choice) → IsChoice graph (kind_number (kind_of_body item.body)) c
          → HasTree graph item ⊎ IsTreeless graph (kind_number (kind_of_body item.body))
      by_choice Native h = inl (0, native h)
      by_choice (By edge) h = inl (h.0, by h.1.tree)
      by_choice Missing h = inr h

  one_more : (item : Item) (items : List Item) (kind : Kind) → HasTree graph item
      → IsFirstTreeless graph items kind → IsFirstTreeless graph (item ∷ items) kind
  one_more item items kind tree first = record {
    before = item ∷ first.before;
    item = first.item;
    after = first.after;
    parts = ap (λ l. item ∷ l) first.parts;
    earlier = All-cons (HasTree graph) item first.before tree first.earlier;
    none = first.none;
    kind_is = first.kind_is;
  }

  -- each item has a tree, or one is the first without
  pub all_or_first : (items : List Item)
      → All (HasTree graph) items ⊎ ((kind : Kind) × IsFirstTreeless graph items kind)
  all_or_first [] = inl (All-nil (HasTree graph))
  all_or_first (item ∷ items) = joined (one_item item) (all_or_first items)
    where
      joined : HasTree graph item ⊎ IsTreeless graph (kind_number (kind_of_body item.body))
          → All (HasTree graph) items ⊎ ((kind : Kind) × IsFirstTreeless graph items kind)
          → All (HasTree graph) (item ∷ items)
          ⊎ ((kind : Kind) × IsFirstTreeless graph (item ∷ items) kind)
      joined (inr treeless) rest = inr (
        kind_of_body item.body,
        record {
          before = [];
          item = item;
          after = items;
          parts = refl;
          earlier = All-nil (HasTree graph);
          none = treeless;
          kind_is = refl;
        },
      )
      joined (inl tree) (inl all) = inl (All-cons (HasTree graph) item items tree all)
      joined (inl tree) (inr first) = inr (first.0, one_more item items first.0 tree first.1)

-- not both
not_treeless : (graph : Hypergraph) (items : List Item) (kind : Kind) → All (HasTree graph) items
    → IsFirstTreeless graph items kind → ⊥
not_treeless graph items kind all first =
    let tree = All-head (HasTree graph) first.item first.after
    (all_second (HasTree graph) first.before (first.item ∷ first.after)
    (subst (All (HasTree graph)) first.parts all)) in
    first.none tree.0 tree.1

module _ (setting : Setting) (costly : IsCostly (graph_of setting)) (lawful : AreLawful setting)
    (model : ModelValue) (valid : IsValid model) where
  pub fresh_or_unsupported : (choice : ℕ → Choice) → AreChoices setting choice
      → FreshBridging setting model ⊎ ((kind : Kind) × IsUnsupported setting model kind)
  fresh_or_unsupported choice chosen =
      of_groups (all_or_first (graph_of setting) choice chosen (model_image model).groups)
    where
      of_others : (groups : All (HasTree (graph_of setting)) (model_image model).groups)
          (inner : List Entry) → EachBridged (rules_by choice) (model_image model).groups inner
          → All (HasTree (graph_of setting)) (map (put_in inner) (model_image model).others)
          ⊎ ((kind : Kind)
          × IsFirstTreeless (graph_of setting) (map (put_in inner) (model_image model).others)
          kind)
          → FreshBridging setting model ⊎ ((kind : Kind) × IsUnsupported setting model kind)
      of_others groups inner trees (inl all) =
          inl (bridged_by_trees setting costly choice chosen lawful model valid groups
          (λ after others.
          subst (λ e. All (λ item. HasTree (graph_of setting) (put_in e item))
          (model_image model).others)
          (ap (λ h. h.entries) (held_each_once trees others))
          (all_from_map (HasTree (graph_of setting)) (put_in inner) (model_image model).others
          all)))
      of_others groups inner trees (inr first) =
          inr (first.0, by_other choice chosen inner trees first.1)

      of_groups : All (HasTree (graph_of setting)) (model_image model).groups
          ⊎ ((kind : Kind) × IsFirstTreeless (graph_of setting) (model_image model).groups kind)
          → FreshBridging setting model ⊎ ((kind : Kind) × IsUnsupported setting model kind)
      of_groups (inl groups) =
          let made = groups_bridged setting costly choice chosen lawful model valid groups in
          of_others groups made.0 made.1 (all_or_first (graph_of setting) choice chosen
          (map (put_in made.0) (model_image model).others))
      of_groups (inr first) = inr (first.0, by_group first.1)

  pub never_both : (bridging : FreshBridging setting model) (kind : Kind)
      → IsUnsupported setting model kind → ⊥
  never_both bridging kind (by_group first) =
      not_treeless (graph_of setting) (model_image model).groups kind
      (trees_of_bridged setting costly bridging.choice bridging.chosen lawful (model_image model)
      bridging.made).0 first
  never_both bridging kind (by_other choice chosen entries trees first) =
      let same : choice ≡ bridging.choice = λ i k. one_choice (graph_of setting) costly k (choice k)
      (bridging.choice k) (chosen k) (bridging.chosen k) i in
      let moved =
      subst (λ c. EachBridged (rules_by c) (model_image model).groups entries) same trees in
      let inner : bridging.made.entries ≡ entries =
      ap (λ h. h.entries) (held_each_once bridging.made.groups moved) in
      not_treeless (graph_of setting) (map (put_in entries) (model_image model).others) kind
      (All-map (HasTree (graph_of setting)) (put_in entries) (model_image model).others
      (subst (λ e. All (λ item. HasTree (graph_of setting) (put_in e item))
      (model_image model).others) inner
      (trees_of_bridged setting costly bridging.choice bridging.chosen lawful (model_image model)
      bridging.made).1))
      first
