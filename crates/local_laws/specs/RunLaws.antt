-- The runs of found items among the addresses of leaves in order are what these items had.
use Rattle.std.specs.Prelude.{◌≡◌, ◌≢◌, ◌⊎◌, ◌↔◌, zero, suc, true, List, [], ◌∷◌, All, Contains, flat_map, None}
use Rattle.std.proofs.Common.{arith, inl, inr, sym, subst, ◌∙◌}
use Rattle.std.proofs.lemmas.List.Elements.{All-contains, Contains-append_cases, Contains-append_left, Contains-append_right}
use Rattle.map_laws.specs.EachLaws.{contains_here, contains_later}
use Rattle.aff_core.specs.Address.{Address, address_eq-Decides}
use Rattle.fresh_bridging.specs.FreshBridging.{FreshBridging}
use Rattle.fresh_bridging.specs.OmitLaws.{IsBelow}
use Rattle.fresh_bridging.specs.TheRules.{Setting}
use Rattle.item_core.specs.declared.item.Item.{Item}
use Rattle.item_leaves.specs.ItemLeaves.{is_of, item_of, those_of}
use Rattle.local_laws.specs.ChangedLaws.{was}
use Rattle.local_laws.specs.GoneLaws.{AreHad, all_kept, kept_in}
use Rattle.local_laws.specs.LookedLaws.{nobody_looks, owner_or_none}
use Rattle.local_laws.specs.Owner.{IsOwner}
use Rattle.local_laws.specs.RootLaws.{root_is_owner}
use Rattle.local_laws.specs.Sound.{IsValidUnder}
use Rattle.local_laws.specs.Views.{IsView, Part}
use Rattle.user_model.specs.Model.{ModelValue}

-- ---- lists of lists

module _ (f : Address → List Address) where
  in_some : (xs : List Address) (v : Address) → Contains (flat_map f xs) v
      → (x : Address) × Contains xs x × Contains (f x) v
  in_some [] v c = absurd (omega (arith, c.1))
  in_some (x ∷ xs) v c = by (Contains-append_cases (f x) (flat_map f xs) v c) (in_some xs v)
    where
      by : Contains (f x) v ⊎ Contains (flat_map f xs) v
          → (Contains (flat_map f xs) v → (y : Address) × Contains xs y × Contains (f y) v)
          → (y : Address) × Contains (x ∷ xs) y × Contains (f y) v
      by (inl k) later = (x, contains_here x xs, k)
      by (inr k) later =
          let r = later k in
          (r.0, contains_later x r.0 xs r.1, r.2)

  in_all : (xs : List Address) (x v : Address) → Contains xs x → Contains (f x) v
      → Contains (flat_map f xs) v
  in_all [] x v c k = absurd (omega (arith, c.1))
  in_all (y ∷ xs) x v (zero, inside, is) k =
      Contains-append_left (f y) (flat_map f xs) v (subst (λ z. Contains (f z) v) (sym is) k)
  in_all (y ∷ xs) x v (suc i, inside, is) k =
      Contains-append_right (f y) (flat_map f xs) v
      (in_all xs x v (i, omega (arith, inside), is) k)

-- ---- what was there

module _ {setting next : Setting} {model after : ModelValue} (sound : IsValidUnder setting model)
    (sound_after : IsValidUnder next after)
    (old : FreshBridging setting model) (new : FreshBridging next after)
    (found : List Address)
    {X : Type 0} (part : Part X) (view : IsView part)
    (low : (item : Item) → All (IsBelow item.at) (view.of_leaf item))
    (ats : List Address)
    (stand : (v : Address)
    → Contains ats v ↔ (was sound sound_after old new found part view v ≢ None)) where
  -- the leaves of each found item among those addresses
  abbrev pub runs : List Address
  runs = flat_map (λ at. those_of at ats) found

  of_item : (at v : Address) → Contains (those_of at ats) v
      → Contains ats v × (is_of at v ≡ true)
  of_item at v c =
      All-contains (λ v. Contains ats v × (is_of at v ≡ true)) (those_of at ats) v
      (all_kept (is_of at) ats) c

  pub runs_had : AreHad sound sound_after old new found part view runs
  runs_had = record {
    owners = λ v c.
        let r = in_some (λ at. those_of at ats) found v c in
        let here = of_item r.0 v r.2 in
        let same : item_of v ≡ r.0 = (address_eq-Decides (item_of v) r.0).0 here.1 in
        owner v r.0 r.1 same ((stand v).0 here.0)
        (owner_or_none setting sound.costly sound.lawful model sound.valid old v);
    all = λ v at c o some.
        in_all (λ at. those_of at ats) found at v c
        (kept_in (is_of at) ats v ((stand v).1 some)
        ((address_eq-Decides (item_of v) at).1 (root_is_owner sound old part view low v at o some)));
  }
    where
      owner : (v at : Address) → Contains found at → item_of v ≡ at
          → (was sound sound_after old new found part view v ≢ None)
          → ((b : Address) × IsOwner model v b) ⊎ ((b : Address) → ¬ (IsOwner model v b))
          → (b : Address) × Contains found b × IsOwner model v b
      owner v at c same some (inr n) =
          absurd (some (nobody_looks setting sound.costly sound.lawful model sound.valid old part
          view v n))
      owner v at c same some (inl (b, o)) =
          let is : b ≡ at = sym (root_is_owner sound old part view low v b o some) ∙ same in
          (b, subst (Contains found) (sym is) c, o)
