-- What each bridge keeps after a change: of what it kept, all nodes of found items go, and those that
-- are planned of its family are kept.
use Rattle.std.specs.Prelude.{◌≡◌, ◌⊎◌, ℕ, Bool, true, false, cond, List, [], ◌∷◌, All, AllPairs, Contains, filter, map, Option, Some, None, refl}
use Rattle.std.specs.FinMap as finite
use Rattle.std.specs.Map.{keys_of}
use Rattle.std.specs.Option.{option_or}
use Rattle.std.proofs.Common.{inl, inr, sym, ap, ap₂, subst, ◌∙◌}
use Rattle.std.proofs.lemmas.List.Elements.{All-cons, All-head, All-nil, All-tail, All-weaker}
use Rattle.std.proofs.lemmas.List.Kept.{AllPairs-cons}
use Rattle.map_laws.specs.EachLaws.{map_same_on}
use Rattle.map_laws.specs.MadeLaws.{get_made}
use Rattle.map_laws.specs.PairLaws.{AllPairs-nil}
use Rattle.address_laws.specs.Apart.{Avoids, Distinct}
use Rattle.aff_core.specs.Address.{Address, address_total, exact_addresses}
use Rattle.bridge_set.specs.Bridges.{kept_by}
use Rattle.bridge_set.specs.Nodes.{HoldNodes, nodes_by}
use Rattle.bridge_face.specs.BridgeState.{BridgeState, KeptByAddress}
use Rattle.bridge_face.specs.declared.kept_item.KeptItem.{KeptItem}
use Rattle.bridge_plan.specs.AddsHeld.{kept_of}
use Rattle.expansion.specs.Read.{model_nodes}
use Rattle.fresh_bridging.specs.FreshBridging.{FreshBridging}
use Rattle.fresh_bridging.specs.TheRules.{Setting}
use Rattle.item_core.specs.Edge.{family_eq, family_of}
use Rattle.item_core.specs.declared.family.Family.{Family}
use Rattle.item_core.specs.declared.item.Item.{Item}
use Rattle.user_model.specs.Model.{ModelValue}
use Rattle.bridge_set_laws.specs.FamilyLaws.{by_family, family_kept, family_part, held_listed, look_family, nodes_held}
use Rattle.leaf_update.specs.Splice.{spliced, without_all}
use Rattle.leaf_update.specs.SplicedLaws.{get_left, get_put_all, get_without}
use Rattle.local_laws.specs.ChangedLaws.{is_now, planned, was}
use Rattle.local_laws.specs.GoneLaws.{keys_had, now_elsewhere, now_planned}
use Rattle.local_laws.specs.Held.{held_by}
use Rattle.local_laws.specs.LookedLaws.{contains_or_not}
use Rattle.local_laws.specs.OnceLaws.{keys_once}
use Rattle.local_laws.specs.Sound.{IsValidUnder}
use Rattle.local_laws.specs.Stays.{StaysAt}
use Rattle.local_laws.specs.Views.{by_address, look, nodes_view, of_nodes}

avoided : (family : Family) (at : Address) (ms : List (ℕ × Item))
    → Avoids (keys_of (by_address ms)) at
    → All (λ (e : Address × KeptItem). ¬ (e.0 ≡ at)) (by_family family (map kept_of ms))
avoided family at [] h = All-nil (λ (e : Address × KeptItem). ¬ (e.0 ≡ at))
avoided family at (m ∷ ms) h =
    one (family_eq (family_of (kept_of m).edge) family)
    (avoided family at ms (All-tail (λ k. ¬ (k ≡ at)) m.1.at (keys_of (by_address ms)) h))
  where
    one : (b : Bool) → All (λ (e : Address × KeptItem). ¬ (e.0 ≡ at)) (by_family family (map kept_of ms))
        → All (λ (e : Address × KeptItem). ¬ (e.0 ≡ at)) (map (λ k. (k.item.at, k))
        (cond b (kept_of m ∷ filter (λ k. family_eq (family_of k.edge) family) (map kept_of ms))
        (filter (λ k. family_eq (family_of k.edge) family) (map kept_of ms))))
    one true later =
        All-cons (λ (e : Address × KeptItem). ¬ (e.0 ≡ at)) (m.1.at, kept_of m) (by_family family (map kept_of ms))
        (All-head (λ k. ¬ (k ≡ at)) m.1.at (keys_of (by_address ms)) h) later
    one false later = later

-- of nodes that are apart, those of a family are
family_apart : (family : Family) (ns : List (ℕ × Item)) → Distinct (keys_of (by_address ns))
    → AllPairs (λ (d e : Address × KeptItem). ¬ (e.0 ≡ d.0)) (by_family family (map kept_of ns))
family_apart family [] d = AllPairs-nil (λ (d e : Address × KeptItem). ¬ (e.0 ≡ d.0))
family_apart family (n ∷ ns) d =
    by (family_eq (family_of (kept_of n).edge) family) (family_apart family ns d.1)
  where
    by : (b : Bool) → AllPairs (λ (d e : Address × KeptItem). ¬ (e.0 ≡ d.0)) (by_family family (map kept_of ns))
        → AllPairs (λ (d e : Address × KeptItem). ¬ (e.0 ≡ d.0)) (map (λ k. (k.item.at, k))
        (cond b (kept_of n ∷ filter (λ k. family_eq (family_of k.edge) family) (map kept_of ns))
        (filter (λ k. family_eq (family_of k.edge) family) (map kept_of ns))))
    by true rest =
        AllPairs-cons (λ (d e : Address × KeptItem). ¬ (e.0 ≡ d.0)) (n.1.at, kept_of n) (by_family family (map kept_of ns))
        (avoided family n.1.at ns d.0) rest
    by false rest = rest

module _ {setting next : Setting} {model after : ModelValue} (sound : IsValidUnder setting model)
    (sound_after : IsValidUnder next after)
    (old : FreshBridging setting model) (new : FreshBridging next after)
    (found : List Address) (apart : AllPairs (λ a b. ¬ (b ≡ a)) found)
    (others : (at : Address) → ¬ (Contains found at) → StaysAt old new at) where
  abbrev had : List Address
  had = keys_of (held_by old of_nodes found)

  abbrev fresh : Family → List (Address × KeptItem)
  fresh family = by_family family (map kept_of (nodes_held sound_after new found))

  new_distinct : Distinct (keys_of (by_address (nodes_held sound_after new found)))
  new_distinct = subst (λ es. Distinct (keys_of es)) (held_listed sound_after new found)
      (keys_once sound_after new of_nodes nodes_view found apart)

  fresh_looked : (family : Family) (v : Address)
      → look v (fresh family)
      ≡ family_part family (planned sound sound_after old new found of_nodes nodes_view v)
  fresh_looked family v =
      look_family v family (nodes_held sound_after new found) new_distinct
      ∙ ap (λ es. family_part family (look v es)) (sym (held_listed sound_after new found))

  or_none : (o : Option KeptItem) → option_or o None ≡ o
  or_none None = refl
  or_none (Some x) = refl

  -- what each bridge keeps
  pub nodes_by_changed : (family : Family)
      → nodes_by new family ≡ spliced (nodes_by old family) had (fresh family)
  nodes_by_changed family = finite.same_map address_total exact_addresses _ _ each
    where
      each : (v : Address) → finite.get (nodes_by new family) v
          ≡ finite.get (spliced (nodes_by old family) had (fresh family)) v
      each v =
          family_kept sound_after new family v
          ∙ ap (family_part family)
          (get_made address_total (by_address (model_nodes new.made)) v)
          ∙ by (contains_or_not had v)
          ∙ sym (get_put_all v (without_all (nodes_by old family) had) (fresh family)
          (family_apart family (nodes_held sound_after new found) new_distinct))
        where
          before : finite.get (nodes_by old family) v
              ≡ family_part family (was sound sound_after old new found of_nodes nodes_view v)
          before =
              family_kept sound old family v
              ∙ ap (family_part family)
              (get_made address_total (by_address (model_nodes old.made)) v)

          by : Contains had v ⊎ (¬ (Contains had v))
              → family_part family (is_now sound sound_after old new found of_nodes nodes_view v)
              ≡ option_or (look v (fresh family))
              (finite.get (without_all (nodes_by old family) had) v)
          by (inl c) =
              ap (family_part family)
              (now_planned sound sound_after old new found of_nodes nodes_view had
              (keys_had sound sound_after old new found of_nodes nodes_view) others v c)
              ∙ sym (fresh_looked family v)
              ∙ sym (or_none (look v (fresh family)))
              ∙ ap (option_or (look v (fresh family)))
              (sym (get_without v (nodes_by old family) had c))
          by (inr n) =
              among (now_elsewhere sound sound_after old new found of_nodes nodes_view had
              (keys_had sound sound_after old new found of_nodes nodes_view) others v n)
              ∙ ap₂ option_or (sym (fresh_looked family v))
              (sym before ∙ sym (get_left v (nodes_by old family) had n))
            where
              among : ((planned sound sound_after old new found of_nodes nodes_view v ≡ None)
                  × (is_now sound sound_after old new found of_nodes nodes_view v
                  ≡ was sound sound_after old new found of_nodes nodes_view v))
                  ⊎ ((was sound sound_after old new found of_nodes nodes_view v ≡ None)
                  × (is_now sound sound_after old new found of_nodes nodes_view v
                  ≡ planned sound sound_after old new found of_nodes nodes_view v))
                  → family_part family (is_now sound sound_after old new found of_nodes nodes_view v)
                  ≡ option_or (family_part family
                  (planned sound sound_after old new found of_nodes nodes_view v))
                  (family_part family (was sound sound_after old new found of_nodes nodes_view v))
              among (inl h) =
                  ap (family_part family) h.1
                  ∙ ap (λ o. option_or (family_part family o) (family_part family
                  (was sound sound_after old new found of_nodes nodes_view v))) (sym h.0)
              among (inr h) =
                  ap (family_part family) h.1
                  ∙ sym (or_none (family_part family
                  (planned sound sound_after old new found of_nodes nodes_view v)))
                  ∙ ap (λ o. option_or (family_part family
                  (planned sound sound_after old new found of_nodes nodes_view v))
                  (family_part family o)) (sym h.0)

  -- so bridges that kept the old nodes, have let all of found items go, and then keep those that are
  -- planned, keep the new ones
  pub bridges_hold : (states after_all : List BridgeState) → HoldNodes old states
      → kept_by after_all
      ≡ map (λ (s : BridgeState). (s.family, spliced s.kept had (fresh s.family))) states
      → kept_by after_all ≡ map (λ (s : BridgeState). (s.family, nodes_by new s.family)) states
  bridges_hold states after_all hold is =
      is ∙ map_same_on (λ (s : BridgeState). (s.family, spliced s.kept had (fresh s.family)))
      (λ (s : BridgeState). (s.family, nodes_by new s.family)) states
      (All-weaker (λ (s : BridgeState). s.kept ≡ nodes_by old s.family)
      (λ (s : BridgeState). ◌≡◌ {A = Family × KeptByAddress} (s.family, spliced s.kept had (fresh s.family))
      (s.family, nodes_by new s.family))
      (λ s h. ap (λ k. (s.family, k)) (ap (λ k. spliced k had (fresh s.family)) h
      ∙ sym (nodes_by_changed s.family))) states hold)
