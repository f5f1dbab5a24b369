-- The leaves and nodes of some of the user's items, put together: at each address they have what
-- the whole bridging has, where one of these items owns it, and nothing elsewhere.
use Rattle.std.specs.Prelude.{zero, suc, ◌≡◌, ◌⊎◌, ◌++◌, Bool, true, false, cond, List, [], ◌∷◌, All, Contains, find, flat_map, Option, Some, None, refl}
use Rattle.std.proofs.Common.{arith, inl, inr, sym, ap, ap₂, subst, ◌∙◌, true≢false}
use Rattle.std.specs.Option.{option_map_or, option_or}
use Rattle.std.proofs.lemmas.List.Elements.{All-head, All-tail}
use Rattle.std.proofs.lemmas.List.Folds.{find-append}
use Rattle.std.proofs.lemmas.Option.{none-some, same_Some}
use Rattle.expansion.specs.Grown.{Held}
use Rattle.aff_core.specs.Address.{Address, address_eq, address_eq-Decides}
use Rattle.item_core.specs.declared.item.Item.{Item}
use Rattle.item_core.specs.Item.{is_group}
use Rattle.map_laws.specs.OptionLaws.{option_or-none}
use Rattle.user_model.specs.Model.{ModelValue}
use Rattle.fresh_bridging.specs.Entries.{Entry, put_in}
use Rattle.fresh_bridging.specs.FreshBridging.{FreshBridging}
use Rattle.fresh_bridging.specs.ModelImage.{model_image}
use Rattle.fresh_bridging.specs.TheRules.{Setting}
use Rattle.fresh_bridging.specs.Touched.{choice_of_item, item_at}
use Rattle.address_laws.specs.DistinctLaws.{model_groups_here, model_others_below, model_others_here}
use Rattle.address_laws.specs.KeyLaws.{IsHere, other_below}
use Rattle.address_laws.specs.Keys.{Mine}
use Rattle.address_laws.specs.Regions.{AreRegionsApart, AtOrBelow}
use Rattle.local_laws.specs.Held.{held_at_in, held_of, is_there}
use Rattle.local_laws.specs.HeldLaws.{held_each_at, held_in_at, keeps_own_each, keeps_own_in, none_at_each}
use Rattle.local_laws.specs.LookedLaws.{Now, found_passes, groups_apart, groups_avoid, looked, others_apart, owner_looks}
use Rattle.local_laws.specs.Owner.{IsOwner}
use Rattle.local_laws.specs.OwnerLaws.{none_in_tree}
use Rattle.local_laws.specs.Sound.{IsValidUnder}
use Rattle.local_laws.specs.StaysLaws.{found_is, none_held, others_are}
use Rattle.local_laws.specs.Views.{IsView, Part, look, look-append, look_in}

-- two that are found among items whose regions are apart, and that both have an address, are one
apart_one : (Of : Item → Address → Type 0) (f g : Item → Bool) (items : List Item) (x y : Item)
    (v : Address) → AreRegionsApart Of items → find f items ≡ Some x → find g items ≡ Some y → Of x v
    → Of y v → x ≡ y
apart_one Of f g [] x y v h e k a b = absurd (none-some x e)
apart_one Of f g (z ∷ zs) x y v h e k a b =
    by (f z) (g z) e k (λ i j. apart_one Of f g zs x y v h.1 i j a b)
  where
    by : (s t : Bool) → cond s (Some z) (find f zs) ≡ Some x → cond t (Some z) (find g zs) ≡ Some y
        → (find f zs ≡ Some x → find g zs ≡ Some y → x ≡ y) → x ≡ y
    by true true i j later = sym (same_Some z x i) ∙ same_Some z y j
    by true false i j later =
        absurd (found_is (λ w. ¬ (Of w v)) g zs y (h.0 v (subst (λ w. Of w v)
        (sym (same_Some z x i)) a)) j b)
    by false true i j later =
        absurd (found_is (λ w. ¬ (Of w v)) f zs x (h.0 v (subst (λ w. Of w v)
        (sym (same_Some z y j)) b)) i a)
    by false false i j later = later i j

module _ {setting : Setting} {model : ModelValue} (sound : IsValidUnder setting model)
    (bridging : FreshBridging setting model) (v : Address) where
  abbrev pub NowMine : Item → Address → Type 0
  NowMine c w = Now setting sound.costly sound.lawful model sound.valid bridging c w

  -- where the item is, and that the address is its own there
  found_where : (at : Address) (o : IsOwner model v at)
      → (find (is_there at) (model_image model).groups ≡ Some o.item)
      ⊎ ((find (is_there at) (model_image model).others ≡ Some o.item) × NowMine o.item v)
  found_where at o =
      by (find (is_there at) (model_image model).groups) refl
      (sym (find-append (is_there at) (model_image model).groups (model_image model).others) ∙ o.is)
    where
      by : (f : Option Item) → find (is_there at) (model_image model).groups ≡ f
          → option_or (find (is_there at) (model_image model).groups)
          (find (is_there at) (model_image model).others) ≡ Some o.item
          → (find (is_there at) (model_image model).groups ≡ Some o.item)
          ⊎ ((find (is_there at) (model_image model).others ≡ Some o.item) × NowMine o.item v)
      by (Some x) f e =
          inl (f ∙ sym (ap (λ p. option_or p (find (is_there at) (model_image model).others)) f)
          ∙ e)
      by None f e =
          let there : find (is_there at) (model_image model).others ≡ Some o.item =
          ap (λ p. option_or p (find (is_there at) (model_image model).others)) (sym f) ∙ e in
          inr (
            there,
            inl (other_below o.item
                (found_is (λ i. is_group i.body ≡ false) (is_there at) (model_image model).others o.item
                (others_are model) there) v o.mine),
          )

  -- one item at most owns an address
  pub one_owner : (a b : Address) → IsOwner model v a → IsOwner model v b → a ≡ b
  one_owner a b o p =
      sym (at_of a o) ∙ ap (λ (i : Item). i.at) (by (found_where a o) (found_where b p)) ∙ at_of b p
    where
      at_of : (at : Address) (o : IsOwner model v at) → o.item.at ≡ at
      at_of at o =
          (address_eq-Decides o.item.at at).0 (found_passes (is_there at)
          ((model_image model).groups ++ (model_image model).others) o.item o.is)

      apart : (x y : Item) (f g : Item → Bool) → find f (model_image model).groups ≡ Some x
          → find g (model_image model).others ≡ Some y → Mine x v → NowMine y v → ⊥
      apart x y f g e k m n =
          found_is (λ i. ¬ (Mine i v)) f (model_image model).groups x
          (groups_avoid setting sound.costly sound.lawful model sound.valid bridging v y g k n) e m

      by : (find (is_there a) (model_image model).groups ≡ Some o.item)
          ⊎ ((find (is_there a) (model_image model).others ≡ Some o.item) × NowMine o.item v)
          → (find (is_there b) (model_image model).groups ≡ Some p.item)
          ⊎ ((find (is_there b) (model_image model).others ≡ Some p.item) × NowMine p.item v)
          → o.item ≡ p.item
      by (inl e) (inl k) =
          apart_one Mine (is_there a) (is_there b) (model_image model).groups o.item p.item v
          (groups_apart setting sound.costly sound.lawful model sound.valid bridging) e k o.mine
          p.mine
      by (inl e) (inr k) =
          absurd (apart o.item p.item (is_there a) (is_there b) e k.0 o.mine k.1)
      by (inr e) (inl k) =
          absurd (apart p.item o.item (is_there b) (is_there a) k e.0 p.mine e.1)
      by (inr e) (inr k) =
          apart_one NowMine (is_there a) (is_there b) (model_image model).others o.item p.item v
          (others_apart setting sound.costly sound.lawful model sound.valid bridging) e.0 k.0 e.1
          k.1

  -- ---- what is no item's isn't among what it holds

  module _ {X : Type 0} (part : Part X) (view : IsView part) where
    pub held_none : (at : Address) → ¬ (IsOwner model v at) → look_in v part (held_of bridging at) ≡ None
    held_none at n =
        by (find (is_there at) (model_image model).groups)
        (find (is_there at) (model_image model).others) refl refl
      where
        whole : item_at model at
            ≡ option_or (find (is_there at) (model_image model).groups)
            (find (is_there at) (model_image model).others)
        whole = find-append (is_there at) (model_image model).groups (model_image model).others

        by : (f g : Option Item) → find (is_there at) (model_image model).groups ≡ f
            → find (is_there at) (model_image model).others ≡ g
            → look_in v part (held_of bridging at) ≡ None
        by (Some x) g e k =
            let is = held_each_at (choice_of_item bridging.choice) at bridging.made.groups
            (keeps_own_each at bridging.made.groups) x e in
            ap (look_in v part) (ap (λ o. option_or o (held_at_in at bridging.made.others)) is.is)
            ∙ none_in_tree setting sound.costly bridging.choice bridging.chosen sound.lawful part
            view v x is.entries is.tree
            (found_is (λ i. IsHere setting sound.costly bridging.choice bridging.chosen sound.lawful
            i) (is_there at) (model_image model).groups x
            (model_groups_here setting sound.costly sound.lawful model sound.valid bridging) e)
            (λ m. n (record {
              item = x;
              is = whole ∙ ap (λ o. option_or o (find (is_there at) (model_image model).others)) e;
              mine = m;
            }))
        by None (Some c) e k =
            let is = held_in_at (choice_of_item bridging.choice) at bridging.made.others
            (keeps_own_in at bridging.made.others) c k in
            ap (look_in v part) (ap₂ option_or (none_at_each at bridging.made.groups e) is.is)
            ∙ none_in_tree setting sound.costly bridging.choice bridging.chosen sound.lawful part
            view v (put_in bridging.made.entries c) is.entries is.tree
            (found_is (λ c. IsHere setting sound.costly bridging.choice bridging.chosen sound.lawful
            (put_in bridging.made.entries c)) (is_there at) (model_image model).others c
            (model_others_here setting sound.costly sound.lawful model sound.valid bridging) k)
            (λ m. n (record {
              item = c;
              is = whole ∙ ap₂ option_or e k;
              mine = inl (found_is (λ c. (w : Address) → NowMine c w → AtOrBelow c w) (is_there at)
                  (model_image model).others c
                  (model_others_below setting sound.costly sound.lawful model sound.valid bridging)
                  k v m);
            }))
        by None None e k =
            ap (look_in v part) (none_held bridging at (whole ∙ ap₂ option_or e k))

    -- ---- some items put together

    abbrev pub joined_of : List Address → List (Address × X)
    joined_of found =
        flat_map (λ at. option_map_or (λ h. part h.leaves h.nodes) (held_of bridging at) []) found

    abbrev whole : Option X
    whole = looked setting sound.costly sound.lawful model sound.valid bridging part view v

    of_one : (at : Address)
        → look v (option_map_or (λ h. part h.leaves h.nodes) (held_of bridging at) [])
        ≡ look_in v part (held_of bridging at)
    of_one at = by (held_of bridging at)
      where
        by : (o : Option (Held Item Entry))
            → look v (option_map_or (λ h. part h.leaves h.nodes) o []) ≡ look_in v part o
        by None = refl
        by (Some h) = refl

    pub joined_none : (found : List Address) → All (λ at. ¬ (IsOwner model v at)) found
        → look v (joined_of found) ≡ None
    joined_none [] h = refl
    joined_none (at ∷ found) h =
        look-append v (option_map_or (λ h. part h.leaves h.nodes) (held_of bridging at) [])
        (joined_of found)
        ∙ ap₂ option_or (of_one at ∙ held_none at (All-head (λ at. ¬ (IsOwner model v at)) at found
        h))
        (joined_none found (All-tail (λ at. ¬ (IsOwner model v at)) at found h))

    -- of two that are the whole or nothing, one after the other
    both : (f r : Option X) → (f ≡ whole) ⊎ (f ≡ None) → (r ≡ whole) ⊎ (r ≡ None)
        → (option_or f r ≡ whole) ⊎ (option_or f r ≡ None)
    both f r (inl e) (inl k) = inl (ap₂ option_or e k ∙ twice whole)
      where
        twice : (o : Option X) → option_or o o ≡ o
        twice None = refl
        twice (Some x) = refl
    both f r (inl e) (inr k) = inl (ap₂ option_or e k ∙ option_or-none whole)
    both f r (inr e) (inl k) = inl (ap₂ option_or e k)
    both f r (inr e) (inr k) = inr (ap₂ option_or e k)

    module _ (a : Address) (o : IsOwner model v a) where
      part_is : (at : Address) → (look_in v part (held_of bridging at) ≡ whole)
          ⊎ (look_in v part (held_of bridging at) ≡ None)
      part_is at = by (address_eq at a) refl
        where
          by : (b : Bool) → address_eq at a ≡ b
              → (look_in v part (held_of bridging at) ≡ whole)
              ⊎ (look_in v part (held_of bridging at) ≡ None)
          by true e =
              inl (ap (λ q. look_in v part (held_of bridging q))
              ((address_eq-Decides at a).0 e)
              ∙ sym (owner_looks setting sound.costly sound.lawful model sound.valid bridging part
              view v a o))
          by false e =
              inr (held_none at (λ p. true≢false (sym ((address_eq-Decides at a).1
              (one_owner at a p o)) ∙ e)))

      joined_is : (found : List Address)
          → (look v (joined_of found) ≡ whole) ⊎ (look v (joined_of found) ≡ None)
      joined_is [] = inr refl
      joined_is (at ∷ found) =
          subst (λ x. (x ≡ whole) ⊎ (x ≡ None))
          (sym (look-append v (option_map_or (λ h. part h.leaves h.nodes) (held_of bridging at) [])
          (joined_of found) ∙ ap (λ f. option_or f (look v (joined_of found))) (of_one at)))
          (both (look_in v part (held_of bridging at)) (look v (joined_of found)) (part_is at)
          (joined_is found))

      pub joined_some : (found : List Address) → Contains found a → look v (joined_of found) ≡ whole
      joined_some [] c = absurd (omega (arith, c.1))
      joined_some (at ∷ found) (zero, inside, is) =
          look-append v (option_map_or (λ h. part h.leaves h.nodes) (held_of bridging at) [])
          (joined_of found)
          ∙ ap (λ f. option_or f (look v (joined_of found)))
          (of_one at ∙ ap (λ q. look_in v part (held_of bridging q)) is
          ∙ sym (owner_looks setting sound.costly sound.lawful model sound.valid bridging part
          view v a o))
          ∙ first (look v (joined_of found)) (joined_is found)
        where
          twice : (o : Option X) → option_or o o ≡ o
          twice None = refl
          twice (Some x) = refl

          first : (r : Option X) → (r ≡ whole) ⊎ (r ≡ None) → option_or whole r ≡ whole
          first r (inl e) = ap (option_or whole) e ∙ twice whole
          first r (inr e) = ap (option_or whole) e ∙ option_or-none whole
      joined_some (at ∷ found) (suc place, inside, is) =
          look-append v (option_map_or (λ h. part h.leaves h.nodes) (held_of bridging at) [])
          (joined_of found)
          ∙ ap₂ option_or (of_one at)
          (joined_some found (place, omega (arith, inside), is))
          ∙ last (look_in v part (held_of bridging at)) (part_is at)
        where
          twice : (o : Option X) → option_or o o ≡ o
          twice None = refl
          twice (Some x) = refl

          last : (f : Option X) → (f ≡ whole) ⊎ (f ≡ None) → option_or f whole ≡ whole
          last f (inl e) = ap (λ g. option_or g whole) e ∙ twice whole
          last f (inr e) = ap (λ g. option_or g whole) e
