-- Where each address stands once, those of leaves are none of nodes.
use Rattle.std.specs.Prelude.{◌≡◌, List, [], ◌∷◌, ◌++◌, All}
use Rattle.std.proofs.Common.{sym}
use Rattle.std.proofs.lemmas.List.Elements.{All-cons, All-head, All-nil, All-tail, All-weaker}
use Rattle.aff_core.specs.Address.{Address}
use Rattle.expansion.specs.Bridged.{Bridged, EachBridged, EachBridgedIn, by, each, each_in, natively, none, none_in}
use Rattle.expansion.specs.Rules.{Rules}
use Rattle.item_core.specs.declared.item.Item.{Item}
use Rattle.map_laws.specs.EachLaws.{all_both}
use Rattle.fresh_bridging.specs.Entries.{Entry}
use Rattle.address_laws.specs.Apart.{Avoids, Distinct}
use Rattle.address_laws.specs.Keys.{keys, keys_in, keys_of_each}
use Rattle.address_laws.specs.LeafKeys.{no_keys}

-- ---- two lists that make a third

-- lists that have nothing in common
abbrev pub HaveNothingInCommon : List Address → List Address → Type 0
HaveNothingInCommon xs ys = All (Avoids ys) xs

-- the third has the addresses of both, each list's in their order
data Merge : List Address → List Address → List Address → Type 0 where
  no_more : Merge [] [] []
  from_first : {x : Address} {xs ys zs : List Address} → Merge xs ys zs
      → Merge (x ∷ xs) ys (x ∷ zs)
  from_second : {y : Address} {xs ys zs : List Address} → Merge xs ys zs
      → Merge xs (y ∷ ys) (y ∷ zs)

first_alone : (xs : List Address) → Merge xs [] xs
first_alone [] = no_more
first_alone (x ∷ xs) = from_first (first_alone xs)

turned : {xs ys zs : List Address} → Merge xs ys zs → Merge ys xs zs
turned no_more = no_more
turned (from_first m) = from_second (turned m)
turned (from_second m) = from_first (turned m)

merge-append : {xs ys zs us vs ws : List Address} → Merge xs ys zs → Merge us vs ws
    → Merge (xs ++ us) (ys ++ vs) (zs ++ ws)
merge-append no_more n = n
merge-append (from_first m) n = from_first (merge-append m n)
merge-append (from_second m) n = from_second (merge-append m n)

-- what holds of all of the third holds of the first
part_of : (P : Address → Type 0) {xs ys zs : List Address} → Merge xs ys zs → All P zs → All P xs
part_of P no_more h = h
part_of P (from_first {x} {xs} {ys} {zs} m) h =
    All-cons P x xs (All-head P x zs h) (part_of P m (All-tail P x zs h))
part_of P (from_second {y} {xs} {ys} {zs} m) h = part_of P m (All-tail P y zs h)

-- where the third has each once, the two have nothing in common
made_beside : {xs ys zs : List Address} → Merge xs ys zs → Distinct zs → HaveNothingInCommon xs ys
made_beside no_more d = All-nil (Avoids [])
made_beside (from_first {x} {xs} {ys} {zs} m) d =
    All-cons (Avoids ys) x xs (part_of (λ k. ¬ (k ≡ x)) (turned m) d.0) (made_beside m d.1)
made_beside (from_second {y} {xs} {ys} {zs} m) d =
    All-weaker (λ x. (¬ (x ≡ y)) × Avoids ys x) (Avoids (y ∷ ys))
    (λ x p. All-cons (λ k. ¬ (k ≡ x)) y ys (λ e. p.0 (sym e)) p.1) xs
    (all_both (λ x. ¬ (x ≡ y)) (Avoids ys) xs (part_of (λ k. ¬ (k ≡ y)) m d.0)
    (made_beside m d.1))

-- ---- the keys of leaves and of nodes

module _ {rules : Rules Item Entry} (of_leaf of_node : Item → List Address) where
  mutual
    unfolding keys

    merged : {item : Item} {entries : List Entry} (tree : Bridged rules item entries)
        → Merge (keys of_leaf no_keys tree) (keys no_keys of_node tree)
        (keys of_leaf of_node tree)
    merged (natively {item} c) = first_alone (of_leaf item)
    merged (by {item} c groups others) =
        merge-append (turned (first_alone (of_node item)))
        (merge-append (merged_of_each groups) (merged_in others))

    merged_of_each : {items : List Item} {entries : List Entry}
        (trees : EachBridged rules items entries)
        → Merge (keys_of_each of_leaf no_keys trees) (keys_of_each no_keys of_node trees)
        (keys_of_each of_leaf of_node trees)
    merged_of_each none = no_more
    merged_of_each (each first rest) = merge-append (merged first) (merged_of_each rest)

    merged_in : {inner : List Entry} {items : List Item} (trees : EachBridgedIn rules inner items)
        → Merge (keys_in of_leaf no_keys trees) (keys_in no_keys of_node trees)
        (keys_in of_leaf of_node trees)
    merged_in none_in = no_more
    merged_in (each_in first rest) = merge-append (merged first) (merged_in rest)

  -- of a whole model
  pub all_beside : {groups others : List Item} {entries : List Entry}
      (gs : EachBridged rules groups entries) (os : EachBridgedIn rules entries others)
      → Distinct (keys_of_each of_leaf of_node gs ++ keys_in of_leaf of_node os)
      → HaveNothingInCommon (keys_of_each of_leaf no_keys gs ++ keys_in of_leaf no_keys os)
      (keys_of_each no_keys of_node gs ++ keys_in no_keys of_node os)
  all_beside gs os d = made_beside (merge-append (merged_of_each gs) (merged_in os)) d
