-- What stands for a variable of the user's is among what the group of the variable holds.
use Rattle.std.specs.Prelude.{◌≡◌, ◌++◌, ℕ, Bool, true, false, cond, List, [], ◌∷◌, All, Contains, find, Some}
use Rattle.std.proofs.Common.{inr, sym, ap, subst, ◌∙◌}
use Rattle.std.specs.Option.{option_or}
use Rattle.std.proofs.lemmas.List.Elements.{All-append, All-head, All-nil, All-tail, All-weaker}
use Rattle.std.proofs.lemmas.Option.{none-some, same_Some}
use Rattle.bridge_graph.specs.Hypergraph.{IsCostly}
use Rattle.bridge_graph.specs.declared.Choice.{Choice}
use Rattle.expansion.specs.Bridged.{EachBridged, each, none}
use Rattle.expansion.specs.GrownLaws.{held}
use Rattle.aff_core.specs.Address.{Address}
use Rattle.bridge_face.specs.Law.{inner_of}
use Rattle.item_core.specs.declared.image.Expression.TheVariants.{Kept}
use Rattle.item_core.specs.declared.item.Item.{Item}
use Rattle.item_core.specs.Item.{is_group, variables_of}
use Rattle.map_laws.specs.EachLaws.{all_both}
use Rattle.user_model.specs.Model.{ModelValue}
use Rattle.fresh_bridging.specs.CanLaws.{AreLawful}
use Rattle.fresh_bridging.specs.Entries.{Entry, expression_in}
use Rattle.fresh_bridging.specs.FreshBridging.{FreshBridging, expression_of}
use Rattle.fresh_bridging.specs.ModelImage.{model_image}
use Rattle.fresh_bridging.specs.TheRules.{AreChoices, Setting, graph_of, rules_by}
use Rattle.fresh_bridging.specs.Touched.{choice_of_item}
use Rattle.address_laws.specs.Apart.{Avoids, avoids}
use Rattle.address_laws.specs.DistinctLaws.{model_groups_here}
use Rattle.address_laws.specs.KeyLaws.{IsHere}
use Rattle.address_laws.specs.Keys.{Mine}
use Rattle.address_laws.specs.Regions.{AreRegionsApart}
use Rattle.tree_laws.specs.LookupLaws.{components, found_first, found_second, itself}
use Rattle.tree_laws.specs.SeenLaws.{IsGroupHere, components_of, components_of_each}
use Rattle.local_laws.specs.Held.{HasOwn, expressed_at, held_at_each, held_at_in, held_of, is_there}
use Rattle.local_laws.specs.HeldLaws.{held_each_at, keeps_own_each}
use Rattle.local_laws.specs.LookedLaws.{groups_apart}
use Rattle.local_laws.specs.Sound.{IsValidUnder}
use Rattle.local_laws.specs.StaysLaws.{found_is, groups_are}

module _ (setting : Setting) (costly : IsCostly (graph_of setting)) (choice : ℕ → Choice)
    (chosen : AreChoices setting choice) (lawful : AreLawful setting) (v : Address) where
  abbrev There : Item → Type 0
  There g = IsGroupHere setting costly choice chosen lawful g

  own_mine : (g : Item) → is_group g.body ≡ true → HasOwn v g → Mine g v
  own_mine g e c = inr (subst (λ b. Contains (cond b (variables_of g.body) []) v) (sym e) c)

  module _ (at : Address) where
    pub expressed_in_each : {items : List Item} {entries : List Entry}
        (trees : EachBridged (rules_by choice) items entries) → All There items
        → AreRegionsApart Mine items → (item : Item) → find (is_there at) items ≡ Some item
        → HasOwn v item
        → expression_in entries v ≡ expressed_at (held_at_each at trees) v
    unfolding held_at_each
    expressed_in_each none here apart item f m = absurd (none-some item f)
    expressed_in_each (each {item = x} {items} {entries} {others} first rest) here apart item f m =
        step (is_there at x) f
        (λ g. expressed_in_each rest (All-tail There x items here) apart.1 item g m)
      where
        there : There x
        there = All-head There x items here

        step : (b : Bool) → cond b (Some x) (find (is_there at) items) ≡ Some item
            → (find (is_there at) items ≡ Some item
            → expression_in others v ≡ expressed_at (held_at_each at rest) v)
            → expression_in (entries ++ others) v
            ≡ expressed_at (cond b (Some (held first)) (held_at_each at rest)) v
        step true g later =
            found_first entries others v
            (subst (λ l. Contains l v)
            (sym (components_of setting costly choice chosen lawful first there))
            (subst (HasOwn v) (sym (same_Some x item g)) m))
        step false g later =
            found_second entries others v
            (avoids (components entries) v (λ c.
            found_is (λ y. ¬ (Mine y v)) (is_there at) items item
            (apart.0 v (own_mine x there.group
            (subst (λ l. Contains l v) (components_of setting costly choice chosen lawful first
            there) c))) g
            (own_mine item (found_is There (is_there at) items item (All-tail There x items here)
            g).group m)))
            ∙ later g

module _ {setting : Setting} {model : ModelValue} (sound : IsValidUnder setting model)
    (bridging : FreshBridging setting model) where
  abbrev HereNow : Item → Type 0
  HereNow g = IsGroupHere setting sound.costly bridging.choice bridging.chosen sound.lawful g

  groups_there : All HereNow (model_image model).groups
  groups_there =
      All-weaker
      (λ g. IsHere setting sound.costly bridging.choice bridging.chosen sound.lawful g
      × (is_group g.body ≡ true)) HereNow
      (λ g h. record { here = h.0; group = h.1 }) (model_image model).groups
      (all_both (IsHere setting sound.costly bridging.choice bridging.chosen sound.lawful)
      (λ g. is_group g.body ≡ true) (model_image model).groups
      (model_groups_here setting sound.costly sound.lawful model sound.valid bridging)
      (groups_are model))

  -- what stands for a variable of the group at the address
  pub expression_held : (v at : Address) (item : Item)
      → find (is_there at) (model_image model).groups ≡ Some item → HasOwn v item
      → expression_of bridging v ≡ expressed_at (held_of bridging at) v
  expression_held v at item f m =
      let is = held_each_at (choice_of_item bridging.choice) at bridging.made.groups
      (keeps_own_each at bridging.made.groups) item f in
      expressed_in_each setting sound.costly bridging.choice bridging.chosen sound.lawful v at
      bridging.made.groups groups_there
      (groups_apart setting sound.costly sound.lawful model sound.valid bridging) item f m
      ∙ ap (λ o. expressed_at o v)
      (is.is ∙ sym (ap (λ o. option_or o (held_at_in at bridging.made.others)) is.is))

  -- what is no group's stands for itself
  pub nobody_expresses : (v : Address)
      → All (λ g. ¬ (HasOwn v g)) (model_image model).groups → expression_of bridging v ≡ Kept v
  nobody_expresses v h =
      itself bridging.made.entries v
      (subst (λ l. Avoids l v)
      (sym (components_of_each setting sound.costly bridging.choice bridging.chosen sound.lawful
      bridging.made.groups groups_there))
      (avoid (model_image model).groups h))
    where
      avoid : (gs : List Item) → All (λ g. ¬ (HasOwn v g)) gs → Avoids (inner_of gs) v
      avoid [] h = All-nil (λ k. ¬ (k ≡ v))
      avoid (g ∷ gs) h =
          All-append (λ k. ¬ (k ≡ v)) (variables_of g.body) (inner_of gs)
          (avoids (variables_of g.body) v (All-head (λ g. ¬ (HasOwn v g)) g gs h))
          (avoid gs (All-tail (λ g. ¬ (HasOwn v g)) g gs h))
