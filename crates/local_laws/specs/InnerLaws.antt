-- How many nodes stand below the items that a change touches: as many as these items hold.
use Rattle.std.specs.Prelude.{◌≡◌, ◌⊎◌, ◌+◌, ℕ, List, [], ◌∷◌, All, AllPairs, Contains, IsSome, length, Option, Some, None, refl}
use Rattle.std.proofs.Common.{inl, inr, sym, subst, ◌∙◌}
use Rattle.std.specs.FinMap as finite
use Rattle.std.specs.Map.{keys_of}
use Rattle.std.proofs.lemmas.List.Elements.{All-cons, All-contains, All-nil}
use Rattle.expansion.specs.Bridged.{by}
use Rattle.expansion.specs.Read.{model_nodes}
use Rattle.aff_core.specs.Address.{Address, address_total}
use Rattle.item_core.specs.declared.item.Item.{Item}
use Rattle.leaf_model.specs.LeafModel.{IsCountOf}
use Rattle.map_laws.specs.EachLaws.{contains_here, contains_later}
use Rattle.map_laws.specs.MadeLaws.{get_made}
use Rattle.map_laws.specs.OptionLaws.{not_some}
use Rattle.user_model.specs.Model.{ModelValue}
use Rattle.fresh_bridging.specs.FreshBridging.{FreshBridging, nodes_of}
use Rattle.fresh_bridging.specs.TheRules.{Setting}
use Rattle.fresh_bridging.specs.Touched.{IsInner, IsTouched}
use Rattle.address_laws.specs.Apart.{avoids, is_distinct}
use Rattle.address_laws.specs.MadeLaws.{absent}
use Rattle.local_laws.specs.Held.{held_by}
use Rattle.local_laws.specs.JoinedLaws.{joined_none, joined_some, one_owner}
use Rattle.local_laws.specs.LookedLaws.{contains_or_not, looked, nobody_looks, owner_or_none}
use Rattle.local_laws.specs.OnceLaws.{keys_once}
use Rattle.local_laws.specs.Owner.{IsOwner}
use Rattle.local_laws.specs.Sound.{IsValidUnder}
use Rattle.local_laws.specs.Stays.{StaysAt}
use Rattle.local_laws.specs.UntouchedLaws.{stays_untouched}
use Rattle.local_laws.specs.Views.{nodes_view, of_nodes}
use Rattle.local_laws.specs.RootLaws.{missing, root_is_owner}
use Rattle.local_laws.specs.Views.{by_address, nodes_low}
use Rattle.item_leaves.specs.ItemLeaves.{item_of}

-- ---- of a bridging

module _ {setting : Setting} {model : ModelValue} (sound : IsValidUnder setting model)
    (bridging : FreshBridging setting model) where
  abbrev here_now : Address → Option (ℕ × Item)
  here_now v =
      looked setting sound.costly sound.lawful model sound.valid bridging of_nodes nodes_view v

  node_here : (v : Address) → finite.get (nodes_of bridging) v ≡ here_now v
  node_here v = get_made address_total (by_address (model_nodes bridging.made)) v

  -- ---- below items that were found

  module _ (Touched : Address → Type 0) (found : List Address)
      (apart : AllPairs (λ a b. ¬ (b ≡ a)) found)
      (touched : All Touched found)
      (others : (at : Address) → ¬ (Contains found at) → ¬ (Touched at)) where
    abbrev pub all_nodes : List (Address × (ℕ × Item))
    all_nodes = held_by bridging of_nodes found

    not_none : (o : Option (ℕ × Item)) → ¬ (o ≡ None) → IsSome o
    not_none None n = absurd (n refl)
    not_none (Some x) n = refl

    some_there : (o : Option (ℕ × Item)) → IsSome o → ¬ (o ≡ None)
    some_there o h e = not_some o e h

    pub inner_count : IsCountOf (λ v. IsSome (finite.get (nodes_of bridging) v) × Touched (item_of v))
        (length (keys_of all_nodes))
    inner_count = record {
      addresses = keys_of all_nodes;
      distinct = is_distinct (keys_of all_nodes) (keys_once sound bridging of_nodes nodes_view found apart);
      each = λ v. (to v, from v);
      count = refl;
    }
      where
        to : (v : Address) → Contains (keys_of all_nodes) v
            → IsSome (finite.get (nodes_of bridging) v) × Touched (item_of v)
        to v c =
            by (owner_or_none setting sound.costly sound.lawful model sound.valid bridging v)
          where
            by : ((at : Address) × IsOwner model v at) ⊎ ((at : Address) → ¬ (IsOwner model v at))
                → IsSome (finite.get (nodes_of bridging) v) × Touched (item_of v)
            by (inr n) =
                absurd (missing v all_nodes (joined_none sound bridging v of_nodes nodes_view found
                (each found)) c)
              where
                each : (xs : List Address) → All (λ at. ¬ (IsOwner model v at)) xs
                each [] = All-nil (λ at. ¬ (IsOwner model v at))
                each (x ∷ xs) = All-cons (λ at. ¬ (IsOwner model v at)) x xs (n x) (each xs)
            by (inl (b, o)) = among (contains_or_not found b)
              where
                among : Contains found b ⊎ (¬ (Contains found b))
                    → IsSome (finite.get (nodes_of bridging) v) × Touched (item_of v)
                among (inl k) =
                    let whole = joined_some sound bridging v of_nodes nodes_view b o found k in
                    let some : ¬ (here_now v ≡ None) =
                    λ e. missing v all_nodes (whole ∙ e) c in (
                      subst IsSome (sym (node_here v)) (not_none (here_now v) some),
                      subst Touched (sym (root_is_owner sound bridging of_nodes nodes_view
                          nodes_low v b o some))
                          (All-contains Touched found b touched k),
                    )
                among (inr k) =
                    absurd (missing v all_nodes (joined_none sound bridging v of_nodes nodes_view
                    found (each found (λ at m. m))) c)
                  where
                    each : (xs : List Address) → ((at : Address) → Contains xs at → Contains found at)
                        → All (λ at. ¬ (IsOwner model v at)) xs
                    each [] h = All-nil (λ at. ¬ (IsOwner model v at))
                    each (x ∷ xs) h =
                        All-cons (λ at. ¬ (IsOwner model v at)) x xs
                        (λ p. k (subst (Contains found) (one_owner sound bridging v x b p o)
                        (h x (contains_here x xs))))
                        (each xs (λ at m. h at (contains_later x at xs m)))

        from : (v : Address) → IsSome (finite.get (nodes_of bridging) v) × Touched (item_of v)
            → Contains (keys_of all_nodes) v
        from v (some, t) =
            by (owner_or_none setting sound.costly sound.lawful model sound.valid bridging v)
          where
            stands : ¬ (here_now v ≡ None)
            stands = some_there (here_now v) (subst IsSome (node_here v) some)

            by : ((at : Address) × IsOwner model v at) ⊎ ((at : Address) → ¬ (IsOwner model v at))
                → Contains (keys_of all_nodes) v
            by (inr n) =
                absurd (stands (nobody_looks setting sound.costly sound.lawful model sound.valid
                bridging of_nodes nodes_view v n))
            by (inl (b, o)) = among (contains_or_not found b) (contains_or_not (keys_of all_nodes) v)
              where
                among : Contains found b ⊎ (¬ (Contains found b))
                    → Contains (keys_of all_nodes) v ⊎ (¬ (Contains (keys_of all_nodes) v))
                    → Contains (keys_of all_nodes) v
                among k (inl c) = c
                among (inr k) (inr m) =
                    absurd (others b k (subst Touched (root_is_owner sound bridging of_nodes nodes_view
                    nodes_low v b o stands) t))
                among (inl k) (inr m) =
                    absurd (stands (sym (joined_some sound bridging v of_nodes nodes_view b o found k)
                    ∙ absent all_nodes v (avoids (keys_of all_nodes) v m)))

-- so the nodes of found items, before and after, are the inner ones
module _ {setting next : Setting} {model after : ModelValue} (sound : IsValidUnder setting model)
    (sound_after : IsValidUnder next after)
    (old : FreshBridging setting model) (new : FreshBridging next after)
    (found : List Address) (apart : AllPairs (λ a b. ¬ (b ≡ a)) found)
    (touched : All (IsTouched old new) found)
    (others : (at : Address) → ¬ (Contains found at) → StaysAt old new at) where
  not_touched : (at : Address) → ¬ (Contains found at) → ¬ (IsTouched old new at)
  not_touched at n = stays_untouched sound sound_after old new at (others at n)

  pub inner_is : IsInner old new
      (length (keys_of (held_by old of_nodes found)) + length (keys_of (held_by new of_nodes found)))
  inner_is = record {
    before = length (keys_of (held_by old of_nodes found));
    behind = length (keys_of (held_by new of_nodes found));
    before_is = inner_count sound old (IsTouched old new) found apart touched not_touched;
    behind_is = inner_count sound_after new (IsTouched old new) found apart touched not_touched;
    all = refl;
  }
