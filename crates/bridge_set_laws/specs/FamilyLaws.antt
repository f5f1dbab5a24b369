-- What the bridge of a family keeps of nodes: those by its edges.
use Rattle.std.specs.Prelude.{◌≡◌, ◌++◌, ℕ, Bool, true, false, cond, List, [], ◌∷◌, filter, flat_map, map, Option, Some, None, refl}
use Rattle.std.specs.BTreeMap.{is_at}
use Rattle.std.specs.FinMap as finite
use Rattle.std.specs.Map.{keys_of}
use Rattle.std.specs.Option.{option_map_or}
use Rattle.std.proofs.Common.{sym, ap, ap₂, subst, ◌∙◌}
use Rattle.std.proofs.lemmas.List.{map-append}
use Rattle.map_laws.specs.MadeLaws.{get_made}
use Rattle.address_laws.specs.Apart.{Avoids, Distinct}
use Rattle.address_laws.specs.DistinctLaws.{model_keys_distinct}
use Rattle.address_laws.specs.LeafKeys.{its_key, keys_of_nodes, no_keys, node_keys_in, node_keys_of_each, nodes_are}
use Rattle.address_laws.specs.MadeLaws.{absent}
use Rattle.aff_core.specs.Address.{Address, address_cmp, address_eq, address_eq-Decides, address_total}
use Rattle.bridge_face.specs.declared.kept_item.KeptItem.{KeptItem}
use Rattle.bridge_plan.specs.AddsHeld.{kept_of}
use Rattle.bridge_set.specs.Bridges.{kept_among}
use Rattle.bridge_set.specs.Nodes.{nodes_by}
use Rattle.expansion.specs.Read.{model_nodes, nodes_in, nodes_of_each}
use Rattle.fresh_bridging.specs.FreshBridging.{FreshBridging, nodes_of}
use Rattle.fresh_bridging.specs.TheRules.{Setting}
use Rattle.item_core.specs.Edge.{family_eq, family_of}
use Rattle.item_core.specs.declared.family.Family.{Family}
use Rattle.item_core.specs.declared.item.Item.{Item}
use Rattle.user_model.specs.Model.{ModelValue}
use Rattle.expansion.specs.Grown.{Held}
use Rattle.fresh_bridging.specs.Entries.{Entry}
use Rattle.local_laws.specs.Held.{held_by, held_of}
use Rattle.local_laws.specs.Sound.{IsValidUnder}
use Rattle.local_laws.specs.Views.{by_address, look, of_nodes}

-- entries of nodes as bridges keep them, of a family
abbrev pub by_family : Family → List KeptItem → List (Address × KeptItem)
by_family family ks =
    map (λ k. (k.item.at, k)) (filter (λ k. family_eq (family_of k.edge) family) ks)

abbrev pub family_part : Family → Option (ℕ × Item) → Option KeptItem
family_part family None = None
family_part family (Some n) =
    cond (family_eq (family_of (kept_of n).edge) family) (Some (kept_of n)) None

pub look_family : (v : Address) (family : Family) (ns : List (ℕ × Item))
    → Distinct (keys_of (by_address ns))
    → look v (by_family family (map kept_of ns)) ≡ family_part family (look v (by_address ns))
look_family v family [] d = refl
look_family v family (n ∷ ns) d =
    by (address_eq v n.1.at) (family_eq (family_of (kept_of n).edge) family) refl
    (look_family v family ns d.1)
  where
    rest : List (Address × KeptItem)
    rest = by_family family (map kept_of ns)

    left : (b c : Bool) → is_at (address_cmp v) n.1.at ≡ b
        → look v (map (λ k. (k.item.at, k))
        (cond c (kept_of n ∷ filter (λ k. family_eq (family_of k.edge) family) (map kept_of ns))
        (filter (λ k. family_eq (family_of k.edge) family) (map kept_of ns))))
        ≡ cond c (cond b (Some (kept_of n)) (look v (by_family family (map kept_of ns))))
        (look v (by_family family (map kept_of ns)))
    left b true e =
        ap (λ b. cond b (Some (kept_of n)) (look v (by_family family (map kept_of ns)))) e
    left b false e = refl

    none_there : v ≡ n.1.at → look v (by_address ns) ≡ None
    none_there e = absent (by_address ns) v
        (subst (Avoids (keys_of (by_address ns))) (sym e) d.0)

    by : (b c : Bool) → address_eq v n.1.at ≡ b
        → look v (by_family family (map kept_of ns)) ≡ family_part family (look v (by_address ns))
        → look v (map (λ k. (k.item.at, k))
        (cond (family_eq (family_of (kept_of n).edge) family)
        (kept_of n ∷ filter (λ k. family_eq (family_of k.edge) family) (map kept_of ns))
        (filter (λ k. family_eq (family_of k.edge) family) (map kept_of ns))))
        ≡ family_part family (look v (by_address (n ∷ ns)))
    by b c e later =
        left b (family_eq (family_of (kept_of n).edge) family) e
        ∙ meets b (family_eq (family_of (kept_of n).edge) family) e refl later
        ∙ ap (λ b. family_part family (cond b (Some n) (look v (by_address ns)))) (sym e)
      where
        meets : (b c : Bool) → address_eq v n.1.at ≡ b
            → family_eq (family_of (kept_of n).edge) family ≡ c
            → look v (by_family family (map kept_of ns))
            ≡ family_part family (look v (by_address ns))
            → cond c (cond b (Some (kept_of n)) (look v (by_family family (map kept_of ns))))
            (look v (by_family family (map kept_of ns)))
            ≡ family_part family (cond b (Some n) (look v (by_address ns)))
        meets true true e f later =
            sym (ap (λ c. cond c (Some (kept_of n)) None) f)
        meets true false e f later =
            later ∙ ap (family_part family) (none_there ((address_eq-Decides v n.1.at).0 e))
            ∙ sym (ap (λ c. cond c (Some (kept_of n)) None) f)
        meets false true e f later = later
        meets false false e f later = later

-- ---- of a bridging

module _ {setting : Setting} {model : ModelValue} (sound : IsValidUnder setting model)
    (bridging : FreshBridging setting model) where
  nodes_distinct : Distinct (keys_of (by_address (model_nodes bridging.made)))
  unfolding model_nodes
  nodes_distinct =
      subst Distinct
      (ap₂ ◌++◌ (node_keys_of_each bridging.made.groups) (node_keys_in bridging.made.others)
      ∙ sym (map-append (λ n. n.1.at) (nodes_of_each bridging.made.groups)
      (nodes_in bridging.made.others))
      ∙ sym (keys_of_nodes (nodes_of_each bridging.made.groups ++ nodes_in bridging.made.others)))
      (model_keys_distinct setting sound.costly sound.lawful model sound.valid bridging no_keys
      its_key nodes_are)

  pub family_kept : (family : Family) (v : Address)
      → finite.get (nodes_by bridging family) v
      ≡ family_part family (finite.get (nodes_of bridging) v)
  unfolding kept_among
  family_kept family v =
      get_made address_total (by_family family (map kept_of (model_nodes bridging.made))) v
      ∙ look_family v family (model_nodes bridging.made) nodes_distinct
      ∙ ap (family_part family)
      (sym (get_made address_total (by_address (model_nodes bridging.made)) v))

  -- the nodes that items hold, as a plan has them
  abbrev pub nodes_held : List Address → List (ℕ × Item)
  nodes_held found = flat_map (λ at. option_map_or (λ h. h.nodes) (held_of bridging at) []) found

  pub held_listed : (found : List Address)
      → held_by bridging of_nodes found ≡ by_address (nodes_held found)
  held_listed [] = refl
  held_listed (at ∷ found) =
      ap₂ ◌++◌ (one (held_of bridging at)) (held_listed found)
      ∙ sym (map-append (λ n. (n.1.at, n))
      (option_map_or (λ h. h.nodes) (held_of bridging at) []) (nodes_held found))
    where
      one : (o : Option (Held Item Entry)) → option_map_or (λ h. of_nodes h.leaves h.nodes) o []
          ≡ by_address (option_map_or (λ h. h.nodes) o [])
      one None = refl
      one (Some h) = refl
