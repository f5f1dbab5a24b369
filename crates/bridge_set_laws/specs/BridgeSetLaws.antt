-- Bridges that let all old nodes of found items go, and then keep those that are planned, keep the
-- nodes of the new bridging, with two turns for each inner item at most.
use Rattle.std.specs.Prelude.{◌≡◌, ◌≤◌, ◌+◌, ◌*◌, ℕ, Bool, true, false, cond, List, [], ◌∷◌, All, AllPairs, Contains, filter, length, map, refl}
use Rattle.std.specs.FinMap as finite
use Rattle.std.specs.Map.{keys_of}
use Rattle.std.proofs.Common.{arith, sym, ap, ap₂, ◌∙◌}
use Rattle.std.proofs.lemmas.List.{length-map}
use Rattle.aff_core.specs.Address.{Address}
use Rattle.bridge_set.specs.Adding.{with_each, with_one}
use Rattle.bridge_set.specs.Bridges.{kept_by}
use Rattle.bridge_set.specs.Nodes.{HoldNodes, nodes_by}
use Rattle.bridge_face.specs.BridgeState.{BridgeState, KeptByAddress}
use Rattle.bridge_face.specs.declared.kept_item.KeptItem.{KeptItem}
use Rattle.bridge_plan.specs.AddsHeld.{kept_of}
use Rattle.fresh_bridging.specs.FreshBridging.{FreshBridging}
use Rattle.fresh_bridging.specs.TheRules.{Setting}
use Rattle.fresh_bridging.specs.Touched.{IsInner, IsTouched}
use Rattle.item_core.specs.Edge.{family_eq, family_of}
use Rattle.item_core.specs.declared.family.Family.{Family}
use Rattle.leaf_update.specs.Puts.{put_all}
use Rattle.user_model.specs.Model.{ModelValue}
use Rattle.bridge_set_laws.specs.CountLaws.{without_each}
use Rattle.bridge_set_laws.specs.FamilyLaws.{by_family, held_listed, nodes_held}
use Rattle.bridge_set_laws.specs.KeptLaws.{bridges_hold}
use Rattle.leaf_update.specs.Splice.{spliced}
use Rattle.local_laws.specs.Held.{held_by}
use Rattle.local_laws.specs.InnerLaws.{inner_is}
use Rattle.local_laws.specs.Sound.{IsValidUnder}
use Rattle.local_laws.specs.Stays.{StaysAt}
use Rattle.local_laws.specs.Views.{by_address, of_nodes}

with_is : (nodes : List KeptItem) (k : Family × KeptByAddress)
    → with_each nodes k ≡ (k.0, put_all k.1 (by_family k.0 nodes))
with_is [] k = refl
with_is (n ∷ nodes) k =
    with_is nodes (with_one n k) ∙ by (family_eq (family_of n.edge) k.0)
  where
    by : (b : Bool)
        → ◌≡◌ {A = Family × KeptByAddress}
        (k.0, put_all (cond b (finite.insert k.1 n.item.at n) k.1) (by_family k.0 nodes)) (
          k.0,
          put_all k.1 (map (λ k. (k.item.at, k))
              (cond b (n ∷ filter (λ m. family_eq (family_of m.edge) k.0) nodes)
              (filter (λ m. family_eq (family_of m.edge) k.0) nodes))),
        )
    by true = refl
    by false = refl

both_is : (gone : List Address) (nodes : List KeptItem) (ss : List BridgeState)
    → map (with_each nodes) (map (without_each gone) (kept_by ss))
    ≡ map (λ (s : BridgeState). (s.family, spliced s.kept gone (by_family s.family nodes))) ss
both_is gone nodes [] = refl
both_is gone nodes (s ∷ ss) =
    ap₂ (λ (k : Family × KeptByAddress) (ks : List (Family × KeptByAddress)). k ∷ ks)
    (with_is nodes (without_each gone (s.family, s.kept))) (both_is gone nodes ss)

module _ {setting next : Setting} {model after : ModelValue} (sound : IsValidUnder setting model)
    (sound_after : IsValidUnder next after)
    (old : FreshBridging setting model) (new : FreshBridging next after)
    (found : List Address) (apart : AllPairs (λ a b. ¬ (b ≡ a)) found)
    (others : (at : Address) → ¬ (Contains found at) → StaysAt old new at) where
  abbrev had : List Address
  had = keys_of (held_by old of_nodes found)

  abbrev planned : List KeptItem
  planned = map kept_of (nodes_held sound_after new found)

  pub bridges_changed : (before between behind : List BridgeState)
      → HoldNodes old before
      → kept_by between ≡ map (without_each had) (kept_by before)
      → kept_by behind ≡ map (with_each planned) (kept_by between)
      → kept_by behind ≡ map (λ (s : BridgeState). (s.family, nodes_by new s.family)) before
  bridges_changed before between behind hold gone kept =
      bridges_hold sound sound_after old new found apart others before behind hold
      (kept ∙ ap (map (with_each planned)) gone ∙ both_is had planned before)

  -- an image for each new node, each old one released, and each new one kept
  pub few_turns : All (IsTouched old new) found → (t0 t1 t2 t3 : ℕ)
      → t1 ≤ t0 + length planned → t2 ≤ t1 + length had → t3 ≤ t2 + length planned
      → (n : ℕ) × IsInner old new n × (t3 ≤ t0 + 2 * n)
  few_turns touched t0 t1 t2 t3 images gone kept = (
    length had + length (keys_of (held_by new of_nodes found)),
    inner_is sound sound_after old new found apart touched others,
    omega (arith, images, gone, kept, as_many),
  )
    where
      as_many : length planned ≡ length (keys_of (held_by new of_nodes found))
      as_many =
          length-map (nodes_held sound_after new found) kept_of
          ∙ sym (length-map (nodes_held sound_after new found) (λ n. (n.1.at, n)))
          ∙ sym (length-map (by_address (nodes_held sound_after new found)) (λ e. e.0))
          ∙ ap (λ es. length (keys_of es)) (sym (held_listed sound_after new found))
