-- What stands at an address is what its owner holds there, and nothing where nobody owns it.
use Rattle.std.specs.Prelude.{◌≡◌, ◌⊎◌, ℕ, Bool, true, false, cond, List, [], ◌∷◌, All, find, Some, None, refl}
use Rattle.std.proofs.Common.{inl, inr, sym, ap, subst, ◌∙◌}
use Rattle.std.specs.Option.{option_or}
use Rattle.std.specs.Map.{keys_of}
use Rattle.std.proofs.lemmas.List.Elements.{All-cons, All-head, All-nil, All-tail}
use Rattle.std.proofs.lemmas.Option.{none-some, same_Some}
use Rattle.bridge_graph.specs.Hypergraph.{IsCostly}
use Rattle.bridge_graph.specs.declared.Choice.{Choice}
use Rattle.expansion.specs.Bridged.{Bridged, EachBridged, EachBridgedIn, each, each_in, none, none_in}
use Rattle.expansion.specs.Grown.{put_held}
use Rattle.expansion.specs.GrownLaws.{held}
use Rattle.expansion.specs.Read.{leaves, leaves_in, leaves_of_each, nodes, nodes_in, nodes_of_each}
use Rattle.aff_core.specs.Address.{Address, address_eq-Decides}
use Rattle.item_core.specs.declared.item.Item.{Item}
use Rattle.map_laws.specs.OptionLaws.{option_or-none}
use Rattle.fresh_bridging.specs.CanLaws.{AreLawful}
use Rattle.fresh_bridging.specs.Entries.{Entry, put_in}
use Rattle.fresh_bridging.specs.TheRules.{AreChoices, Setting, graph_of, rules_by}
use Rattle.address_laws.specs.Apart.{Avoids}
use Rattle.address_laws.specs.KeyLaws.{IsHere, avoid_each, avoid_in, within}
use Rattle.address_laws.specs.Keys.{Mine}
use Rattle.address_laws.specs.MadeLaws.{absent}
use Rattle.address_laws.specs.Regions.{AreRegionsApart}
use Rattle.local_laws.specs.Held.{held_at_each, held_at_in, is_there}
use Rattle.local_laws.specs.StaysLaws.{found_is}
use Rattle.local_laws.specs.Views.{IsView, Part, look, look-append, look_in}

-- ---- the owner among items

-- an item of these, the first at its address, has the address in its region
pub record IsHomeIn (Of : Item → Address → Type 0) (items : List Item) (v : Address) : Type 0 where
  pub item : Item
  pub is : find (is_there item.at) items ≡ Some item
  pub mine : Of item v

module _ (Of : Item → Address → Type 0) (itself : (item : Item) → Of item item.at) (v : Address)
  where
    -- one item at most has it
    pub home_or_none : (items : List Item) → AreRegionsApart Of items
        → All (λ i. Of i v ⊎ (¬ (Of i v))) items → IsHomeIn Of items v ⊎ All (λ i. ¬ (Of i v)) items
    home_or_none [] apart test = inr (All-nil (λ i. ¬ (Of i v)))
    home_or_none (x ∷ xs) apart test =
        first (All-head (λ i. Of i v ⊎ (¬ (Of i v))) x xs test)
        (home_or_none xs apart.1 (All-tail (λ i. Of i v ⊎ (¬ (Of i v))) x xs test))
      where
        here : Of x v → find (is_there x.at) (x ∷ xs) ≡ Some x
        here m = ap (λ b. cond b (Some x) (find (is_there x.at) xs)) ((address_eq-Decides x.at x.at).1
            refl)

        other : (h : IsHomeIn Of xs v) (b : Bool) → is_there h.item.at x ≡ b
            → cond b (Some x) (find (is_there h.item.at) xs) ≡ Some h.item
        other h false e = h.is
        other h true e =
            absurd (found_is (λ y. ¬ (Of y x.at)) (is_there h.item.at) xs h.item
            (apart.0 x.at (itself x)) h.is
            (subst (Of h.item) (sym ((address_eq-Decides x.at h.item.at).0 e)) (itself h.item)))

        first : Of x v ⊎ (¬ (Of x v)) → IsHomeIn Of xs v ⊎ All (λ i. ¬ (Of i v)) xs
            → IsHomeIn Of (x ∷ xs) v ⊎ All (λ i. ¬ (Of i v)) (x ∷ xs)
        first (inl m) rest = inl (record { item = x; is = here m; mine = m })
        first (inr n) (inl h) =
            inl (record { item = h.item; is = other h (is_there h.item.at x) refl; mine = h.mine })
        first (inr n) (inr all) = inr (All-cons (λ i. ¬ (Of i v)) x xs n all)

-- ---- along the trees

module _ (setting : Setting) (costly : IsCostly (graph_of setting)) (choice : ℕ → Choice)
    (chosen : AreChoices setting choice) (lawful : AreLawful setting)
    {X : Type 0} (part : Part X) (view : IsView part) (v : Address) where
  abbrev pub Here : Item → Type 0
  Here item = IsHere setting costly choice chosen lawful item

  none_of : (es : List (Address × X)) (ks : List Address) → keys_of es ≡ ks → Avoids ks v
      → look v es ≡ None
  none_of es ks e h = absent es v (subst (λ ks. Avoids ks v) (sym e) h)

  pub none_in_tree : (item : Item) (entries : List Entry)
      (tree : Bridged (rules_by choice) item entries) → Here item → ¬ (Mine item v)
      → look v (part (leaves tree) (nodes tree)) ≡ None
  none_in_tree item entries tree here n =
      none_of (part (leaves tree) (nodes tree)) _ (view.tree (rules_by choice) item entries tree)
      (within setting costly choice chosen lawful view.of_leaf view.of_node view.are
      (λ k. ¬ (k ≡ v)) tree here (λ k m e. n (subst (Mine item) e m)))

  pub none_in_each : {items : List Item} {entries : List Entry}
      (trees : EachBridged (rules_by choice) items entries) → All Here items
      → All (λ g. ¬ (Mine g v)) items → look v (part (leaves_of_each trees) (nodes_of_each trees)) ≡ None
  none_in_each {items} {entries} trees here h =
      none_of (part (leaves_of_each trees) (nodes_of_each trees)) _
      (view.each (rules_by choice) items entries trees)
      (avoid_each setting costly choice chosen lawful view.of_leaf view.of_node view.are trees here
      v h)

  pub none_in_others : {inner : List Entry} {items : List Item}
      (trees : EachBridgedIn (rules_by choice) inner items)
      → All (λ c. Here (put_in inner c)) items → All (λ c. ¬ (Mine (put_in inner c) v)) items
      → look v (part (leaves_in trees) (nodes_in trees)) ≡ None
  none_in_others {inner} {items} trees here h =
      none_of (part (leaves_in trees) (nodes_in trees)) _
      (view.further (rules_by choice) inner items trees)
      (avoid_in setting costly choice chosen lawful view.of_leaf view.of_node view.are trees here v
      h)

  module _ (at : Address) where
    pub found_in_each : {items : List Item} {entries : List Entry}
        (trees : EachBridged (rules_by choice) items entries) → All Here items
        → AreRegionsApart Mine items → (item : Item) → find (is_there at) items ≡ Some item
        → Mine item v
        → look v (part (leaves_of_each trees) (nodes_of_each trees))
        ≡ look_in v part (held_at_each at trees)
    unfolding held_at_each leaves nodes
    found_in_each none here apart item f m = absurd (none-some item f)
    found_in_each (each {item = x} {items} {entries} first rest) here apart item f m =
        ap (look v) (view.joins (leaves first) (leaves_of_each rest) (nodes first)
        (nodes_of_each rest))
        ∙ look-append v (part (leaves first) (nodes first))
        (part (leaves_of_each rest) (nodes_of_each rest))
        ∙ step (is_there at x) f (found_in_each rest (All-tail Here x items here) apart.1 item)
      where
        step : (b : Bool) → cond b (Some x) (find (is_there at) items) ≡ Some item
            → (find (is_there at) items ≡ Some item → Mine item v
            → look v (part (leaves_of_each rest) (nodes_of_each rest))
            ≡ look_in v part (held_at_each at rest))
            → option_or (look v (part (leaves first) (nodes first)))
            (look v (part (leaves_of_each rest) (nodes_of_each rest)))
            ≡ look_in v part (cond b (Some (held first)) (held_at_each at rest))
        step true g later =
            ap (option_or (look v (part (leaves first) (nodes first))))
            (none_in_each rest (All-tail Here x items here)
            (apart.0 v (subst (λ i. Mine i v) (sym (same_Some x item g)) m)))
            ∙ option_or-none (look v (part (leaves first) (nodes first)))
        step false g later =
            ap (λ o. option_or o (look v (part (leaves_of_each rest) (nodes_of_each rest))))
            (none_in_tree x entries first (All-head Here x items here)
            (λ k. found_is (λ y. ¬ (Mine y v)) (is_there at) items item (apart.0 v k) g m))
            ∙ later g m

    module _ (inner : List Entry) where
      abbrev MineIn : Item → Address → Type 0
      MineIn c w = Mine (put_in inner c) w

      pub found_in_others : {items : List Item}
          (trees : EachBridgedIn (rules_by choice) inner items)
          → All (λ c. Here (put_in inner c)) items
          → AreRegionsApart MineIn items → (item : Item) → find (is_there at) items ≡ Some item
          → MineIn item v
          → look v (part (leaves_in trees) (nodes_in trees)) ≡ look_in v part (held_at_in at trees)
      unfolding held_at_in leaves nodes
      found_in_others none_in here apart item f m = absurd (none-some item f)
      found_in_others (each_in {item = x} {items} {entries} first rest) here apart item f m =
          ap (look v) (view.joins (leaves first) (leaves_in rest) (nodes first) (nodes_in rest))
          ∙ look-append v (part (leaves first) (nodes first))
          (part (leaves_in rest) (nodes_in rest))
          ∙ step (is_there at x) f
          (found_in_others rest (All-tail (λ c. Here (put_in inner c)) x items here) apart.1 item)
        where
          step : (b : Bool) → cond b (Some x) (find (is_there at) items) ≡ Some item
              → (find (is_there at) items ≡ Some item → MineIn item v
              → look v (part (leaves_in rest) (nodes_in rest))
              ≡ look_in v part (held_at_in at rest))
              → option_or (look v (part (leaves first) (nodes first)))
              (look v (part (leaves_in rest) (nodes_in rest)))
              ≡ look_in v part
              (cond b (Some (put_held (rules_by choice) inner x (held first)))
              (held_at_in at rest))
          step true g later =
              ap (option_or (look v (part (leaves first) (nodes first))))
              (none_in_others rest (All-tail (λ c. Here (put_in inner c)) x items here)
              (apart.0 v (subst (λ i. MineIn i v) (sym (same_Some x item g)) m)))
              ∙ option_or-none (look v (part (leaves first) (nodes first)))
          step false g later =
              ap (λ o. option_or o (look v (part (leaves_in rest) (nodes_in rest))))
              (none_in_tree (put_in inner x) entries first
              (All-head (λ c. Here (put_in inner c)) x items here)
              (λ k. found_is (λ y. ¬ (MineIn y v)) (is_there at) items item (apart.0 v k) g m))
              ∙ later g m
