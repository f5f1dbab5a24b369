-- Bridges that hold the nodes of a bridging and release some of the user's items are left without
-- exactly the nodes of these, and take at most a turn for each.
use Rattle.std.specs.Prelude.{◌≡◌, ◌⊎◌, ◌≤◌, ◌+◌, ℕ, Bool, true, false, cond, List, [], ◌∷◌, Contains, length, map, Option, Some, None, refl}
use Rattle.std.specs.Cmp.{eq_by_cmp_equiv}
use Rattle.std.specs.FinMap as finite
use Rattle.std.specs.Map.{keys_of}
use Rattle.std.proofs.Common.{inl, inr, sym, ap, ap₂, subst, ◌∙◌}
use Rattle.std.proofs.lemmas.List.Elements.{All-head, All-tail}
use Rattle.std.proofs.lemmas.Map.Views.{Contains-from_any, list_any-from_Contains}
use Rattle.std.proofs.lemmas.Option.{none-some}
use Rattle.aff_core.specs.Address.{Address, address_eq, address_eq-Decides, address_total, exact_addresses}
use Rattle.bridge_face.specs.ItemAddresses.{item_of}
use Rattle.bridge_face.specs.BridgeState.{BridgeState, KeptByAddress}
use Rattle.bridge_set.specs.Bridges.{families_of, kept_by, occur_once}
use Rattle.bridge_set.specs.Letting.{is_of_any, kept_count, without_found, without_items}
use Rattle.bridge_set.specs.LettingLaws.{get_without_items}
use Rattle.bridge_set.specs.Nodes.{HoldNodes, nodes_by}
use Rattle.expansion.specs.Read.{model_nodes}
use Rattle.fresh_bridging.specs.FreshBridging.{FreshBridging}
use Rattle.fresh_bridging.specs.TheRules.{Setting}
use Rattle.item_core.specs.declared.family.Family.{Family}
use Rattle.item_core.specs.declared.item.Item.{Item}
use Rattle.map_laws.specs.MadeLaws.{get_made}
use Rattle.user_model.specs.Model.{ModelValue}
use Rattle.bridge_set_laws.specs.AloneLaws.{all_alone}
use Rattle.bridge_set_laws.specs.CountLaws.{few_gone, without_each}
use Rattle.bridge_set_laws.specs.FamilyLaws.{family_kept, family_part}
use Rattle.leaf_update.specs.Splice.{without_all}
use Rattle.leaf_update.specs.SplicedLaws.{get_left, get_without}
use Rattle.local_laws.specs.GoneLaws.{keys_had}
use Rattle.local_laws.specs.Held.{held_by}
use Rattle.local_laws.specs.JoinedLaws.{joined_some}
use Rattle.local_laws.specs.LookedLaws.{contains_or_not, nobody_looks, owner_or_none}
use Rattle.local_laws.specs.Owner.{IsOwner}
use Rattle.local_laws.specs.RootLaws.{missing, root_is_owner}
use Rattle.local_laws.specs.Sound.{IsValidUnder}
use Rattle.local_laws.specs.Views.{by_address, look, nodes_low, nodes_view, of_nodes}

module _ {setting : Setting} {model : ModelValue} (sound : IsValidUnder setting model)
    (bridging : FreshBridging setting model) (found : List Address) where
  abbrev pub had : List Address
  had = keys_of (held_by bridging of_nodes found)

  abbrev stands : Address → Option (ℕ × Item)
  stands v = look v (by_address (model_nodes bridging.made))

  -- a node at or below one of the items is one that they hold
  is_held : (v : Address) (n : ℕ × Item) → stands v ≡ Some n → is_of_any found v ≡ true
      → Contains had v
  is_held v n e own =
      by (owner_or_none setting sound.costly sound.lawful model sound.valid bridging v)
    where
      some : ¬ (stands v ≡ None)
      some f = none-some n (sym f ∙ e)

      among : Contains found (item_of v)
      among =
          Contains-from_any {eq = address_eq} (λ x y k. (address_eq-Decides x y).0 k) (item_of v)
          found own

      by : ((b : Address) × IsOwner model v b) ⊎ ((b : Address) → ¬ (IsOwner model v b))
          → Contains had v
      by (inl (b, o)) =
          (keys_had sound sound bridging bridging found of_nodes nodes_view).all v b
          (subst (Contains found)
          (root_is_owner sound bridging of_nodes nodes_view nodes_low v b o some) among) o some
      by (inr nobody) =
          absurd (some (nobody_looks setting sound.costly sound.lawful model sound.valid bridging
          of_nodes nodes_view v nobody))

  -- and one that they hold is at or below one of them
  is_below : (v : Address) → Contains had v → is_of_any found v ≡ true
  is_below v c = by ((keys_had sound sound bridging bridging found of_nodes nodes_view).owners v c)
    where
      by : (b : Address) × Contains found b × IsOwner model v b → is_of_any found v ≡ true
      by (b, among, o) =
          list_any-from_Contains {eq = address_eq} (eq_by_cmp_equiv address_total) (item_of v)
          found
          (subst (Contains found)
          (sym (root_is_owner sound bridging of_nodes nodes_view nodes_low v b o
          (λ e. missing v (held_by bridging of_nodes found)
          (joined_some sound bridging v of_nodes nodes_view b o found among ∙ e) c))) among)

  -- so what is kept of a family loses what they hold
  gone_is : (family : Family) → without_items found (nodes_by bridging family)
      ≡ without_all (nodes_by bridging family) had
  gone_is family =
      finite.same_map address_total exact_addresses _ _ (λ v.
      get_without_items found (nodes_by bridging family) v ∙ each v)
    where
      each : (v : Address)
          → cond (is_of_any found v) None (finite.get (nodes_by bridging family) v)
          ≡ finite.get (without_all (nodes_by bridging family) had) v
      each v = by (contains_or_not had v)
        where
          absent : ¬ (Contains had v) → is_of_any found v ≡ true
              → finite.get (nodes_by bridging family) v ≡ None
          absent out own =
              family_kept sound bridging family v
              ∙ ap (family_part family)
              (get_made address_total (by_address (model_nodes bridging.made)) v
              ∙ none (stands v) refl)
            where
              none : (o : Option (ℕ × Item)) → stands v ≡ o → stands v ≡ None
              none None e = e
              none (Some n) e = absurd (out (is_held v n e own))

          left : ¬ (Contains had v) → (b : Bool) → is_of_any found v ≡ b
              → cond b None (finite.get (nodes_by bridging family) v)
              ≡ finite.get (nodes_by bridging family) v
          left out true own = sym (absent out own)
          left out false other = refl

          by : Contains had v ⊎ (¬ (Contains had v))
              → cond (is_of_any found v) None (finite.get (nodes_by bridging family) v)
              ≡ finite.get (without_all (nodes_by bridging family) had) v
          by (inl c) =
              ap (λ b. cond b None (finite.get (nodes_by bridging family) v)) (is_below v c)
              ∙ sym (get_without v (nodes_by bridging family) had c)
          by (inr n) =
              left n (is_of_any found v) refl
              ∙ sym (get_left v (nodes_by bridging family) had n)

  pub gone_by : (states between : List BridgeState) → HoldNodes bridging states
      → kept_by between ≡ map (without_found found) (kept_by states)
      → kept_by between ≡ map (without_each had) (kept_by states)
  gone_by states between hold gone = gone ∙ each states hold
    where
      same : (s : BridgeState) → s.kept ≡ nodes_by bridging s.family
          → without_items found s.kept ≡ without_all s.kept had
      same s h =
          ap (without_items found) h ∙ gone_is s.family
          ∙ sym (ap (λ (m : KeptByAddress). without_all m had) h)

      each : (ss : List BridgeState) → HoldNodes bridging ss
          → map (without_found found) (kept_by ss) ≡ map (without_each had) (kept_by ss)
      each [] h = refl
      each (s ∷ ss) h =
          ap₂ (λ (m : KeptByAddress) (ks : List (Family × KeptByAddress)). (s.family, m) ∷ ks)
          (same s (All-head (λ (s : BridgeState). s.kept ≡ nodes_by bridging s.family) s ss h))
          (each ss (All-tail (λ (s : BridgeState). s.kept ≡ nodes_by bridging s.family) s ss h))

  pub few_released : (states between : List BridgeState) → HoldNodes bridging states
      → occur_once (families_of states) ≡ true
      → kept_by between ≡ map (without_each had) (kept_by states)
      → kept_count (kept_by states) ≤ kept_count (kept_by between) + length had
  few_released states between hold once gone =
      subst (λ ks. kept_count (kept_by states) ≤ kept_count ks + length had) (sym gone)
      (few_gone had (kept_by states) (λ at. all_alone sound bridging at states hold once))
