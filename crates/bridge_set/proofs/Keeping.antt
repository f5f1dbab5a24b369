-- What is kept of items by their family, one after another.
use Rattle.std.specs.Prelude.{◌≡◌, Bool, true, false, cond, List, [], ◌∷◌, ◌++◌, Some, None, All, filter, map, refl}
use Rattle.std.specs.FinMap as finite
use Rattle.std.specs.FinMap.Entries.{find}
use Rattle.std.specs.List.{AllByRecursion, IsDistinct}
use Rattle.std.specs.Ordering.{eq_by_cmp}
use Rattle.std.proofs.Common.{append_assoc, sym, ap, ap₂, subst, ◌∙◌}
use Rattle.std.proofs.lemmas.List.{append-nil, map-append}
use Rattle.std.proofs.lemmas.List.Elements.{All-cons, All-head, All-map, All-nil, All-tail, All-weaker, filter-append}
use Rattle.aff_core.specs.Address.{Address, address_cmp, address_eq, address_total, exact_addresses}
use Rattle.aff_core.specs.Rising.{HasDistinctKeys}
use Rattle.aff_core.specs.KeyOrder.{address_order, either_way}
use Rattle.item_core.specs.declared.family.Family.{Family}
use Rattle.item_core.specs.Edge.{family_eq, family_of}
use Rattle.bridge_face.specs.BridgeState.{BridgeState, KeptByAddress}
use Rattle.bridge_face.specs.declared.kept_item.KeptItem.{KeptItem}
use Rattle.bridge_set.specs.Adding.{AreFree, with_each}
use Rattle.bridge_set.specs.Bridges.{kept_among, kept_by, keeping}

-- nothing of the list is at the address
abbrev Misses : Address → List KeptItem → Type 0
Misses at nodes = All (λ (n : KeptItem). address_eq at n.item.at ≡ false) nodes

-- ---- what is kept of items, by their family

not_among : (at : Address) (family : Family) (nodes : List KeptItem) → Misses at nodes
    → find address_cmp at (map (λ (n : KeptItem). (n.item.at, n))
    (filter (λ (n : KeptItem). family_eq (family_of n.edge) family) nodes)) ≡ None
not_among at family [] h = refl
not_among at family (n ∷ nodes) h =
    by (family_eq (family_of n.edge) family)
    (not_among at family nodes (All-tail (λ (m : KeptItem). address_eq at m.item.at ≡ false) n nodes
    h))
  where
    by : (b : Bool)
        → find address_cmp at (map (λ (m : KeptItem). (m.item.at, m))
        (filter (λ (m : KeptItem). family_eq (family_of m.edge) family) nodes)) ≡ None
        → find address_cmp at (map (λ (m : KeptItem). (m.item.at, m))
        (cond b (n ∷ filter (λ (m : KeptItem). family_eq (family_of m.edge) family) nodes)
        (filter (λ (m : KeptItem). family_eq (family_of m.edge) family) nodes))) ≡ None
    by true rest =
        ap (λ b. cond b (Some n) (find address_cmp at (map (λ (m : KeptItem). (m.item.at, m))
        (filter (λ (m : KeptItem). family_eq (family_of m.edge) family) nodes))))
        (All-head (λ (m : KeptItem). address_eq at m.item.at ≡ false) n nodes h) ∙ rest
    by false rest = rest

-- one item more
kept_more : (family : Family) (done : List KeptItem) (n : KeptItem) → Misses n.item.at done
    → kept_among (done ++ n ∷ []) family
    ≡ cond (family_eq (family_of n.edge) family)
    (finite.insert (kept_among done family) n.item.at n) (kept_among done family)
unfolding kept_among
kept_more family done n h =
    ap (λ ns. finite.from_entries {R = address_cmp} (map (λ (m : KeptItem). (m.item.at, m)) ns))
    (filter-append (λ (m : KeptItem). family_eq (family_of m.edge) family) done (n ∷ []))
    ∙ by (family_eq (family_of n.edge) family)
  where
    by : (b : Bool)
        → finite.from_entries {R = address_cmp} (map (λ (m : KeptItem). (m.item.at, m))
        (filter (λ (m : KeptItem). family_eq (family_of m.edge) family) done ++ cond b (n ∷ []) []))
        ≡ cond b (finite.insert (finite.from_entries (map (λ (m : KeptItem). (m.item.at, m))
        (filter (λ (m : KeptItem). family_eq (family_of m.edge) family) done))) n.item.at n)
        (finite.from_entries (map (λ (m : KeptItem). (m.item.at, m))
        (filter (λ (m : KeptItem). family_eq (family_of m.edge) family) done)))
    by true =
        ap (finite.from_entries {R = address_cmp})
        (map-append (λ (m : KeptItem). (m.item.at, m))
        (filter (λ (m : KeptItem). family_eq (family_of m.edge) family) done) (n ∷ []))
        ∙ finite.from_entries_push address_total exact_addresses
        (map (λ (m : KeptItem). (m.item.at, m))
        (filter (λ (m : KeptItem). family_eq (family_of m.edge) family) done)) n.item.at n
        (not_among n.item.at family done h)
    by false =
        ap (λ ns. finite.from_entries {R = address_cmp} (map (λ (m : KeptItem). (m.item.at, m)) ns))
        (append-nil (filter (λ (m : KeptItem). family_eq (family_of m.edge) family) done))

-- ---- addresses that stand once

earlier : (done rest : List KeptItem) (n : KeptItem)
    → HasDistinctKeys address_cmp (map (λ (m : KeptItem). (m.item.at, m)) (done ++ n ∷ rest))
    → Misses n.item.at done
unfolding IsDistinct
earlier [] rest n h = All-nil (λ (m : KeptItem). address_eq n.item.at m.item.at ≡ false)
earlier (d ∷ done) rest n h =
    All-cons (λ (m : KeptItem). address_eq n.item.at m.item.at ≡ false) d done
    (either_way address_order d.item.at n.item.at (last done h.0)) (earlier done rest n h.1)
  where
    last : (ns : List KeptItem)
        → AllByRecursion (λ y. eq_by_cmp address_cmp d.item.at y ≡ false)
        (map (λ (e : Address × KeptItem). e.0)
        (map (λ (m : KeptItem). (m.item.at, m)) (ns ++ n ∷ rest)))
        → address_eq d.item.at n.item.at ≡ false
    last [] k = k.0
    last (m ∷ ns) k = last ns k.1

-- ---- where nothing is kept at first

kept_beside : (family : Family) (done rest : List KeptItem)
    → HasDistinctKeys address_cmp (map (λ (n : KeptItem). (n.item.at, n)) (done ++ rest))
    → with_each rest (family, kept_among done family) ≡ (family, kept_among (done ++ rest) family)
kept_beside family done [] d =
    ap (λ ns. (family, kept_among ns family)) (sym (append-nil done))
kept_beside family done (n ∷ rest) d =
    ap (λ k. with_each rest (family, k))
    (sym (kept_more family done n (earlier done rest n d)))
    ∙ kept_beside family (done ++ n ∷ []) rest
    (subst (λ ns. HasDistinctKeys address_cmp (map (λ (m : KeptItem). (m.item.at, m)) ns))
    (sym (append_assoc done (n ∷ []) rest)) d)
    ∙ ap (λ ns. (family, kept_among ns family)) (append_assoc done (n ∷ []) rest)

module _ (nodes : List KeptItem) where
  pub kept_from_nothing :
      HasDistinctKeys address_cmp (map (λ (n : KeptItem). (n.item.at, n)) nodes)
      → (ss : List BridgeState) → All (λ (s : BridgeState). s.kept ≡ finite.empty) ss
      → map (with_each nodes) (kept_by ss) ≡ map (keeping nodes) ss
  unfolding kept_among
  kept_from_nothing d [] h = refl
  kept_from_nothing d (s ∷ ss) h =
      ap₂ (λ (k : Family × KeptByAddress) (ks : List (Family × KeptByAddress)). k ∷ ks)
      (ap (λ k. with_each nodes (s.family, k))
      (All-head (λ (t : BridgeState). t.kept ≡ finite.empty) s ss h)
      ∙ kept_beside s.family [] nodes d)
      (kept_from_nothing d ss (All-tail (λ (t : BridgeState). t.kept ≡ finite.empty) s ss h))

  pub all_free : (ss : List BridgeState) → All (λ (s : BridgeState). s.kept ≡ finite.empty) ss
      → AreFree nodes (kept_by ss)
  all_free ss h = each nodes
    where
      none : (at : Address)
          → All (λ (k : Family × KeptByAddress). finite.get k.1 at ≡ None) (kept_by ss)
      none at =
          All-map (λ (k : Family × KeptByAddress). finite.get k.1 at ≡ None)
          (λ (s : BridgeState). (s.family, s.kept)) ss
          (All-weaker (λ (s : BridgeState). s.kept ≡ finite.empty) (λ s. finite.get s.kept at ≡ None)
          (λ s e. ap (λ k. finite.get k at) e ∙ finite.get-empty address_cmp at) ss h)

      each : (ns : List KeptItem) → AreFree ns (kept_by ss)
      each [] = All-nil (λ (n : KeptItem).
          All (λ (k : Family × KeptByAddress). finite.get k.1 n.item.at ≡ None) (kept_by ss))
      each (n ∷ ns) =
          All-cons (λ (n : KeptItem).
          All (λ (k : Family × KeptByAddress). finite.get k.1 n.item.at ≡ None) (kept_by ss)) n ns
          (none n.item.at) (each ns)
