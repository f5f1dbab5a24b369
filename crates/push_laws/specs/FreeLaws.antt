-- Bridges that have let all nodes of found items go are free for those that are planned of them, and
-- these can be kept.
use Rattle.std.specs.Prelude.{◌≡◌, ◌≢◌, ◌⊎◌, ℕ, true, List, [], ◌∷◌, All, AllPairs, Contains, map, None, refl}
use Rattle.std.specs.FinMap as finite
use Rattle.std.specs.List.{IsDistinct, list_any}
use Rattle.std.specs.Map.{keys_of}
use Rattle.std.proofs.Common.{inl, inr, sym, ap, subst, ◌∙◌}
use Rattle.std.proofs.lemmas.List.Elements.{All-cons, All-contains_itself, All-head, All-map, All-nil, All-tail, All-weaker}
use Rattle.address_laws.specs.Apart.{Distinct, is_distinct}
use Rattle.aff_core.specs.Address.{Address, address_eq, address_total}
use Rattle.bridge_set_laws.specs.CountLaws.{without_each}
use Rattle.bridge_set_laws.specs.FamilyLaws.{family_kept, family_part, held_listed}
use Rattle.bridge_set.specs.Adding.{AreFree}
use Rattle.bridge_set.specs.Bridges.{AreKeepable, kept_by}
use Rattle.bridge_set.specs.Nodes.{HoldNodes, nodes_by}
use Rattle.bridge_face.specs.Law.{IsItemFor}
use Rattle.bridge_face.specs.BridgeState.{BridgeState, KeptByAddress}
use Rattle.bridge_face.specs.declared.kept_item.KeptItem.{KeptItem}
use Rattle.bridge_plan.specs.AddsHeld.{kept_of}
use Rattle.expansion.specs.Read.{model_leaves, model_nodes}
use Rattle.fresh_bridging.specs.FreshBridging.{FreshBridging}
use Rattle.fresh_bridging.specs.TheRules.{Setting}
use Rattle.item_core.specs.Edge.{family_eq, family_of}
use Rattle.item_core.specs.declared.family.Family.{Family}
use Rattle.item_core.specs.declared.item.Item.{Item}
use Rattle.leaf_update.specs.Splice.{without_all}
use Rattle.leaf_update.specs.SplicedLaws.{get_left, get_without}
use Rattle.local_laws.specs.ChangedLaws.{is_now, planned, was}
use Rattle.local_laws.specs.GoneLaws.{keys_had, now_elsewhere}
use Rattle.local_laws.specs.Held.{held_by}
use Rattle.local_laws.specs.LookedLaws.{contains_or_not}
use Rattle.local_laws.specs.OnceLaws.{keys_once}
use Rattle.local_laws.specs.RootLaws.{missing}
use Rattle.local_laws.specs.Sound.{IsValidUnder}
use Rattle.local_laws.specs.Stays.{StaysAt}
use Rattle.local_laws.specs.Views.{by_address, nodes_view, of_nodes}
use Rattle.map_laws.specs.EachLaws.{all_from_map}
use Rattle.map_laws.specs.MadeLaws.{get_made}
use Rattle.push_laws.specs.HeldAllLaws.{each_node_held, nodes_held}
use Rattle.user_model.specs.Model.{ModelValue}

module _ {setting next : Setting} {model after : ModelValue} (sound : IsValidUnder setting model)
    (sound_after : IsValidUnder next after)
    (old : FreshBridging setting model) (new : FreshBridging next after)
    (found : List Address) (apart : AllPairs (λ a b. ¬ (b ≡ a)) found)
    (others_stay : (at : Address) → ¬ (Contains found at) → StaysAt old new at) where
  abbrev had : List Address
  had = keys_of (held_by old of_nodes found)

  abbrev pub to_keep : List KeptItem
  to_keep = map kept_of (nodes_held new found)

  -- ---- free

  -- where a node is planned, nothing is kept once all nodes of the found items are released
  free_there : (family : Family) (v : Address)
      → planned sound sound_after old new found of_nodes nodes_view v ≢ None
      → finite.get (without_all (nodes_by old family) had) v ≡ None
  free_there family v some = by (contains_or_not had v)
    where
      by : Contains had v ⊎ (¬ (Contains had v))
          → finite.get (without_all (nodes_by old family) had) v ≡ None
      by (inl c) = get_without v (nodes_by old family) had c
      by (inr n) =
          get_left v (nodes_by old family) had n
          ∙ family_kept sound old family v
          ∙ ap (family_part family) (get_made address_total (by_address (model_nodes old.made)) v)
          ∙ among (now_elsewhere sound sound_after old new found of_nodes nodes_view had
          (keys_had sound sound_after old new found of_nodes nodes_view) others_stay v n)
        where
          among : ((planned sound sound_after old new found of_nodes nodes_view v ≡ None)
              × (is_now sound sound_after old new found of_nodes nodes_view v
              ≡ was sound sound_after old new found of_nodes nodes_view v))
              ⊎ ((was sound sound_after old new found of_nodes nodes_view v ≡ None)
              × (is_now sound sound_after old new found of_nodes nodes_view v
              ≡ planned sound sound_after old new found of_nodes nodes_view v))
              → family_part family (was sound sound_after old new found of_nodes nodes_view v) ≡ None
          among (inl h) = absurd (some h.0)
          among (inr h) = ap (family_part family) h.0

  planned_there : (v : Address) → Contains (keys_of (held_by new of_nodes found)) v
      → planned sound sound_after old new found of_nodes nodes_view v ≢ None
  planned_there v c e = missing v (held_by new of_nodes found) e c

  each_bridge : (v : Address) → planned sound sound_after old new found of_nodes nodes_view v ≢ None
      → (states : List BridgeState) → HoldNodes old states
      → All (λ (k : Family × KeptByAddress). finite.get k.1 v ≡ None)
      (map (without_each had) (kept_by states))
  each_bridge v some [] hold = All-nil (λ (k : Family × KeptByAddress). finite.get k.1 v ≡ None)
  each_bridge v some (s ∷ states) hold =
      All-cons (λ (k : Family × KeptByAddress). finite.get k.1 v ≡ None)
      (without_each had (s.family, s.kept)) (map (without_each had) (kept_by states))
      (ap (λ (m : KeptByAddress). finite.get (without_all m had) v)
      (All-head (λ (s : BridgeState). s.kept ≡ nodes_by old s.family) s states hold)
      ∙ free_there s.family v some)
      (each_bridge v some states
      (All-tail (λ (s : BridgeState). s.kept ≡ nodes_by old s.family) s states hold))

  pub free_after : (before between : List BridgeState) → HoldNodes old before
      → kept_by between ≡ map (without_each had) (kept_by before)
      → AreFree to_keep (kept_by between)
  free_after before between hold gone =
      subst (AreFree to_keep) (sym gone)
      (All-map (λ (n : KeptItem). All (λ (k : Family × KeptByAddress). finite.get k.1 n.item.at ≡ None)
      (map (without_each had) (kept_by before))) kept_of (nodes_held new found)
      (All-weaker (λ (n : ℕ × Item). Contains (keys_of (by_address (nodes_held new found))) n.1.at)
      (λ (n : ℕ × Item). All (λ (k : Family × KeptByAddress). finite.get k.1 n.1.at ≡ None)
      (map (without_each had) (kept_by before)))
      (λ n c. each_bridge n.1.at (planned_there n.1.at
      (subst (λ es. Contains (keys_of es) n.1.at) (sym (held_listed sound_after new found)) c))
      before hold) (nodes_held new found) (each_key (nodes_held new found))))
    where
      each_key : (ns : List (ℕ × Item))
          → All (λ (n : ℕ × Item). Contains (keys_of (by_address ns)) n.1.at) ns
      each_key ns =
          all_from_map (λ e. Contains (keys_of (by_address ns)) e.0) (λ n. (n.1.at, n)) ns
          (all_from_map (Contains (keys_of (by_address ns))) (λ e. e.0) (by_address ns)
          (All-contains_itself (keys_of (by_address ns))))

  -- ---- and can be kept

  pub to_be_kept : (families : List Family)
      → AreKeepable families (map kept_of (model_nodes new.made)) → AreKeepable families to_keep
  to_be_kept families all = record {
    own = All-map (λ n. list_any (family_eq (family_of n.edge)) families ≡ true) kept_of
        (nodes_held new found)
        (each_node_held (λ i. Unit {0})
        (λ n. list_any (family_eq (family_of (kept_of n).edge)) families ≡ true) new
        (nothing_of (model_leaves new.made))
        (all_from_map (λ n. list_any (family_eq (family_of n.edge)) families ≡ true) kept_of
        (model_nodes new.made) all.own) found);
    suits = All-map (λ n. IsItemFor n.edge n.item) kept_of (nodes_held new found)
        (each_node_held (λ i. Unit {0}) (λ n. IsItemFor (kept_of n).edge (kept_of n).item) new
        (nothing_of (model_leaves new.made))
        (all_from_map (λ n. IsItemFor n.edge n.item) kept_of (model_nodes new.made) all.suits)
        found);
    apart = subst (IsDistinct address_eq) (same_keys (nodes_held new found))
        (is_distinct (keys_of (by_address (nodes_held new found)))
        (subst (λ es. Distinct (keys_of es)) (held_listed sound_after new found)
        (keys_once sound_after new of_nodes nodes_view found apart)));
  }
    where
      nothing_of : (is : List Item) → All (λ (i : Item). Unit {0}) is
      nothing_of [] = All-nil (λ i. Unit {0})
      nothing_of (i ∷ is) = All-cons (λ i. Unit {0}) i is tt (nothing_of is)

      same_keys : (ns : List (ℕ × Item))
          → keys_of (by_address ns)
          ≡ map (λ (e : Address × KeptItem). e.0)
          (map (λ (n : KeptItem). (n.item.at, n)) (map kept_of ns))
      same_keys [] = refl
      same_keys (n ∷ ns) = ap (λ ks. n.1.at ∷ ks) (same_keys ns)
