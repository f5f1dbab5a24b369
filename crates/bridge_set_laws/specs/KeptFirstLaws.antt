-- What the first bridge keeps at an address is what stands there, of bridges that hold the nodes of a
-- bridging.
use Rattle.std.specs.Prelude.{◌≡◌, ℕ, Bool, true, false, cond, ◌||◌, List, [], ◌∷◌, All, Option, Some, None, slice_index_or, refl}
use Rattle.std.proofs.Common.{sym, ap, ap₂, subst, ◌∙◌, true≢false}
use Rattle.std.specs.BTreeMap.{is_at}
use Rattle.std.specs.FinMap as finite
use Rattle.std.specs.List.{list_any}
use Rattle.std.specs.Option.{option_map, option_or}
use Rattle.std.proofs.lemmas.List.Elements.{All-head, All-tail}
use Rattle.std.proofs.lemmas.Option.{none-some, same_Some}
use Rattle.aff_core.specs.Address.{Address, address_cmp, address_total}
use Rattle.bridge_face.specs.BridgeState.{BridgeState}
use Rattle.bridge_face.specs.declared.kept_item.KeptItem.{KeptItem}
use Rattle.bridge_plan.specs.AddsHeld.{kept_of}
use Rattle.bridge_set.specs.Bridges.{families_of, kept_first}
use Rattle.bridge_set.specs.Nodes.{HoldNodes, nodes_by}
use Rattle.expansion.specs.Read.{model_nodes}
use Rattle.fresh_bridging.specs.FreshBridging.{FreshBridging, nodes_of}
use Rattle.fresh_bridging.specs.TableLaws.{and_second}
use Rattle.fresh_bridging.specs.TheRules.{Setting, edge_at, family_number}
use Rattle.item_core.specs.Edge.{family_eq, family_of}
use Rattle.item_core.specs.declared.item.Item.{Item}
use Rattle.map_laws.specs.MadeLaws.{get_made}
use Rattle.tree_laws.specs.LeafLaws.{IsNode}
use Rattle.user_model.specs.Model.{ModelValue}
use Rattle.bridge_set_laws.specs.FamilyLaws.{family_kept, family_part}
use Rattle.local_laws.specs.Sound.{IsValidUnder}
use Rattle.local_laws.specs.Views.{by_address, look}

looked_has : (P : ℕ × Item → Type 0) (v : Address) (ns : List (ℕ × Item)) → All P ns → (n : ℕ × Item)
    → look v (by_address ns) ≡ Some n → P n
looked_has P v [] h n e = absurd (none-some n e)
looked_has P v (m ∷ ms) h n e =
    by (is_at (address_cmp v) m.1.at) e (looked_has P v ms (All-tail P m ms h) n)
  where
    by : (b : Bool) → cond b (Some m) (look v (by_address ms)) ≡ Some n
        → (look v (by_address ms) ≡ Some n → P n) → P n
    by true f later = subst P (same_Some m n f) (All-head P m ms h)
    by false f later = later f

module _ {setting : Setting} {model : ModelValue} (sound : IsValidUnder setting model)
    (bridging : FreshBridging setting model) where
  abbrev parts : Option (ℕ × Item) → List BridgeState → Option KeptItem
  parts o [] = None
  parts o (s ∷ ss) = option_or (family_part s.family o) (parts o ss)

  kept_is : (v : Address) (ss : List BridgeState) → HoldNodes bridging ss
      → kept_first ss v ≡ parts (finite.get (nodes_of bridging) v) ss
  kept_is v [] h = refl
  kept_is v (s ∷ ss) h =
      ap₂ option_or
      (ap (λ k. finite.get k v)
      (All-head (λ (s : BridgeState). s.kept ≡ nodes_by bridging s.family) s ss h)
      ∙ family_kept sound bridging s.family v)
      (kept_is v ss (All-tail (λ (s : BridgeState). s.kept ≡ nodes_by bridging s.family) s ss h))

  none_kept : (ss : List BridgeState) → parts None ss ≡ None
  none_kept [] = refl
  none_kept (s ∷ ss) = none_kept ss

  one_keeps : (n : ℕ × Item) (ss : List BridgeState)
      → list_any (family_eq (family_of (edge_at n.0))) (families_of ss) ≡ true
      → parts (Some n) ss ≡ Some (kept_of n)
  one_keeps n [] h = absurd (true≢false (sym h))
  one_keeps n (s ∷ ss) h =
      by (family_eq (family_of (edge_at n.0)) s.family) h (one_keeps n ss)
    where
      by : (b : Bool)
          → (b || list_any (family_eq (family_of (edge_at n.0))) (families_of ss)) ≡ true
          → (list_any (family_eq (family_of (edge_at n.0))) (families_of ss) ≡ true
          → parts (Some n) ss ≡ Some (kept_of n))
          → option_or (cond b (Some (kept_of n)) None) (parts (Some n) ss) ≡ Some (kept_of n)
      by true h later = refl
      by false h later = later h

  module _ (usable : All (IsNode setting) (model_nodes bridging.made))
      (states : List BridgeState) (families : families_of states ≡ setting.families)
      (hold : HoldNodes bridging states) where
    -- the bridges keep, at each address, what stands there
    pub kept_found : (v : Address)
        → kept_first states v ≡ option_map kept_of (finite.get (nodes_of bridging) v)
    kept_found v =
        kept_is v states hold ∙ by (finite.get (nodes_of bridging) v) refl
      where
        by : (o : Option (ℕ × Item)) → finite.get (nodes_of bridging) v ≡ o
            → parts o states ≡ option_map kept_of o
        by None e = none_kept states
        by (Some n) e =
            let is_node = looked_has (IsNode setting) v (model_nodes bridging.made) usable n
            (sym (get_made address_total (by_address (model_nodes bridging.made)) v) ∙ e) in
            one_keeps n states
            (ap (list_any (family_eq (family_of (edge_at n.0)))) families
            ∙ and_second
            (slice_index_or setting.table.on (family_number (family_of (edge_at n.0))) false)
            (list_any (family_eq (family_of (edge_at n.0))) setting.families) is_node.usable)
