-- Of some of the user's items, put together, each leaf and each node stands at an address of its
-- own.
use Rattle.std.specs.Prelude.{◌≡◌, List, [], ◌∷◌, All, AllPairs, find, Option, Some, None, refl}
use Rattle.std.proofs.Common.{inl, sym, ap, ap₂, subst, ◌∙◌}
use Rattle.std.specs.Map.{keys_of}
use Rattle.std.specs.Option.{option_map_or, option_or}
use Rattle.std.proofs.lemmas.List.{map-append}
use Rattle.std.proofs.lemmas.List.Elements.{All-append, All-head, All-nil, All-tail, All-weaker}
use Rattle.std.proofs.lemmas.List.Folds.{find-append}
use Rattle.expansion.specs.Bridged.{Bridged}
use Rattle.expansion.specs.Grown.{Held}
use Rattle.expansion.specs.Read.{leaves, nodes}
use Rattle.aff_core.specs.Address.{Address}
use Rattle.item_core.specs.declared.item.Item.{Item}
use Rattle.map_laws.specs.PairLaws.{AllPairs-head, AllPairs-tail}
use Rattle.user_model.specs.Model.{ModelValue}
use Rattle.fresh_bridging.specs.Entries.{Entry, put_in}
use Rattle.fresh_bridging.specs.FreshBridging.{FreshBridging}
use Rattle.fresh_bridging.specs.ModelImage.{model_image}
use Rattle.fresh_bridging.specs.TheRules.{Setting, rules_by}
use Rattle.fresh_bridging.specs.Touched.{choice_of_item, item_at}
use Rattle.address_laws.specs.Apart.{Avoids, Distinct, distinct-append}
use Rattle.address_laws.specs.DistinctLaws.{model_groups_here, model_others_below, model_others_here}
use Rattle.address_laws.specs.KeyLaws.{IsHere, once_in_tree, within}
use Rattle.address_laws.specs.Keys.{Mine}
use Rattle.address_laws.specs.Regions.{AtOrBelow}
use Rattle.local_laws.specs.Held.{held_at_in, held_by, held_of, is_there}
use Rattle.local_laws.specs.HeldLaws.{held_each_at, held_in_at, keeps_own_each, keeps_own_in, none_at_each}
use Rattle.local_laws.specs.JoinedLaws.{NowMine, one_owner}
use Rattle.local_laws.specs.Owner.{IsOwner}
use Rattle.local_laws.specs.Sound.{IsValidUnder}
use Rattle.local_laws.specs.StaysLaws.{found_is, none_held}
use Rattle.local_laws.specs.Views.{IsView, Part}

module _ {setting : Setting} {model : ModelValue} (sound : IsValidUnder setting model)
    (bridging : FreshBridging setting model) {X : Type 0} (part : Part X) (view : IsView part) where
  -- what stands in a list of entries: each at an address of the item's, and each once
  record AreKeysOf (at : Address) (es : List (Address × X)) : Type 0 where
    owned : All (λ k. IsOwner model k at) (keys_of es)
    once : Distinct (keys_of es)

  abbrev Here : Item → Type 0
  Here item = IsHere setting sound.costly bridging.choice bridging.chosen sound.lawful item

  of_tree : (at : Address) (item : Item) (entries : List Entry)
      (tree : Bridged (rules_by bridging.choice) item entries) → Here item
      → ((k : Address) → Mine item k → IsOwner model k at)
      → AreKeysOf at (part (leaves tree) (nodes tree))
  of_tree at item entries tree here own =
      let same = view.tree (rules_by bridging.choice) item entries tree in record {
        owned = subst (All (λ k. IsOwner model k at)) (sym same)
            (within setting sound.costly bridging.choice bridging.chosen sound.lawful view.of_leaf
            view.of_node view.are (λ k. IsOwner model k at) tree here own);
        once = subst Distinct (sym same)
            (once_in_tree setting sound.costly bridging.choice bridging.chosen sound.lawful
            view.of_leaf view.of_node view.are tree here);
      }

  abbrev entries_at : Address → List (Address × X)
  entries_at at = option_map_or (λ h. part h.leaves h.nodes) (held_of bridging at) []

  of_item : (at : Address) → AreKeysOf at (entries_at at)
  of_item at =
      by (find (is_there at) (model_image model).groups)
      (find (is_there at) (model_image model).others) refl refl
    where
      whole : item_at model at
          ≡ option_or (find (is_there at) (model_image model).groups)
          (find (is_there at) (model_image model).others)
      whole = find-append (is_there at) (model_image model).groups (model_image model).others

      moved : (o p : Option (Held Item Entry)) → o ≡ p
          → AreKeysOf at (option_map_or (λ h. part h.leaves h.nodes) p [])
          → AreKeysOf at (option_map_or (λ h. part h.leaves h.nodes) o [])
      moved o p e h =
          subst (λ o. AreKeysOf at (option_map_or (λ h. part h.leaves h.nodes) o [])) (sym e) h

      by : (f g : Option Item) → find (is_there at) (model_image model).groups ≡ f
          → find (is_there at) (model_image model).others ≡ g → AreKeysOf at (entries_at at)
      by (Some x) g e k =
          let is = held_each_at (choice_of_item bridging.choice) at bridging.made.groups
          (keeps_own_each at bridging.made.groups) x e in
          moved _ _ (ap (λ o. option_or o (held_at_in at bridging.made.others)) is.is)
          (of_tree at x is.entries is.tree
          (found_is Here (is_there at) (model_image model).groups x
          (model_groups_here setting sound.costly sound.lawful model sound.valid bridging) e)
          (λ k m. record {
            item = x;
            is = whole ∙ ap (λ o. option_or o (find (is_there at) (model_image model).others)) e;
            mine = m;
          }))
      by None (Some c) e k =
          let is = held_in_at (choice_of_item bridging.choice) at bridging.made.others
          (keeps_own_in at bridging.made.others) c k in
          moved _ _ (ap₂ option_or (none_at_each at bridging.made.groups e) is.is)
          (of_tree at (put_in bridging.made.entries c) is.entries is.tree
          (found_is (λ c. Here (put_in bridging.made.entries c)) (is_there at)
          (model_image model).others c
          (model_others_here setting sound.costly sound.lawful model sound.valid bridging) k)
          (λ v m. record {
            item = c;
            is = whole ∙ ap₂ option_or e k;
            mine = inl (found_is (λ c. (w : Address) → NowMine sound bridging v c w → AtOrBelow c w)
                (is_there at) (model_image model).others c
                (model_others_below setting sound.costly sound.lawful model sound.valid bridging)
                k v m);
          }))
      by None None e k =
          moved _ None (none_held bridging at (whole ∙ ap₂ option_or e k))
          (record { owned = All-nil (λ k. IsOwner model k at); once = tt })

  -- ---- some items

  -- each key is one of these items' alone
  pub owned_by : (P : Address → Type 0) (found : List Address)
      → All (λ at. (k : Address) → IsOwner model k at → P k) found
      → All P (keys_of (held_by bridging part found))
  owned_by P [] h = All-nil P
  owned_by P (at ∷ found) h =
      subst (All P) (sym (map-append (λ e. e.0) (entries_at at) (held_by bridging part found)))
      (All-append P (keys_of (entries_at at)) (keys_of (held_by bridging part found))
      (All-weaker (λ k. IsOwner model k at) P
      (All-head (λ at. (k : Address) → IsOwner model k at → P k) at found h)
      (keys_of (entries_at at)) (of_item at).owned)
      (owned_by P found (All-tail (λ at. (k : Address) → IsOwner model k at → P k) at found h)))

  pub keys_once : (found : List Address) → AllPairs (λ a b. ¬ (b ≡ a)) found
      → Distinct (keys_of (held_by bridging part found))
  keys_once [] h = tt
  keys_once (at ∷ found) h =
      subst Distinct (sym (map-append (λ e. e.0) (entries_at at) (held_by bridging part found)))
      (distinct-append (keys_of (entries_at at)) (keys_of (held_by bridging part found))
      (of_item at).once
      (keys_once found (AllPairs-tail (λ a b. ¬ (b ≡ a)) at found h))
      (All-weaker (λ k. IsOwner model k at) (Avoids (keys_of (held_by bridging part found)))
      (λ k o. owned_by (λ q. ¬ (q ≡ k)) found
      (All-weaker (λ b. ¬ (b ≡ at)) (λ b. (q : Address) → IsOwner model q b → ¬ (q ≡ k))
      (λ b n q p e. n (one_owner sound bridging k b at
      (subst (λ q. IsOwner model q b) e p) o)) found
      (AllPairs-head (λ a b. ¬ (b ≡ a)) at found h)))
      (keys_of (entries_at at)) (of_item at).owned))
