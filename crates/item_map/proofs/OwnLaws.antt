-- What the map of all entries has at or below the address of an item is what the item has.
use Rattle.std.specs.Prelude.{◌≡◌, ◌≢◌, ◌<◌, ◌≤◌, ℕ, Bool, true, false, not, cond, List, [], ◌∷◌, ◌++◌, All, IsSome, Option, Some, None, filter, find, is_some, length, map, slice_index_or, refl}
use Rattle.std.proofs.Common.{arith, inl, inr, sym, ap, subst, true≢false, ◌∙◌}
use Rattle.std.proofs.lemmas.Bool.{cases_eq}
use Rattle.std.proofs.lemmas.List.{append-nil, length-map}
use Rattle.std.proofs.lemmas.List.Elements.{All-contains, All-head, All-tail, All-weaker, filter-append}
use Rattle.std.proofs.lemmas.List.Filters.{length-filter_both}
use Rattle.std.specs.Option.{option_map}
use Rattle.std.specs.FinMap as finite
use Rattle.std.specs.FinMap.{FinMap}
use Rattle.std.specs.FinMap.Entries.{find-where_key}
use Rattle.aff_core.specs.Address.{Address, address_cmp, address_eq-Decides, exact_addresses, root_address}
use Rattle.aff_core.specs.declared.root.Root.{Root}
use Rattle.aff_core.specs.declared.root.Root.TheVariants.{Variable, Group, Row, Objective}
use Rattle.map_laws.specs.MadeLaws.{entries_empty}
use Rattle.map_laws.specs.PlaceLaws.{filter_all, filter_nothing}
use Rattle.numbered_list.specs.Numbered as numbered
use Rattle.numbered_list.specs.Numbered.{Rise}
use Rattle.numbered_list.specs.Laws.{Contains-found, Rise-tail, find-first, find-past, find-rest, number_of_found}
use Rattle.item_map.specs.ItemAddresses.{is_of, item_of}
use Rattle.item_map.specs.ItemLists.{AreOfItem, AreRootsInOrder, HasRoomAt, all_items, entries_in, entries_of, item_number, items_of, map_in, of_items, own, own_entries}
use Rattle.item_map.specs.declared.item_entries.ItemEntries.{ItemEntries}
use Rattle.item_map.specs.declared.roots.ByRoot.{ByRoot}
use Rattle.item_map.proofs.RiseLaws.{IsOwn, all_rise, entries_are, own_addresses, parted, roots_of}

pub is_own : (item at : Address) → item_of at ≡ item → is_of item at ≡ true
is_own item at e = (address_eq-Decides (item_of at) item).1 e

pub of_same : (item at : Address) → is_of item at ≡ true → item_of at ≡ item
of_same item at e = (address_eq-Decides (item_of at) item).0 e

pub not_own : (item at : Address) → item_of at ≢ item → is_of item at ≡ false
not_own item at ne = by (is_of item at) refl
  where
    by : (b : Bool) → is_of item at ≡ b → b ≡ false
    by true e = absurd (ne (of_same item at e))
    by false e = refl

-- nothing is of any item
pub none_of_item : (V : Type 0) (item : Address) → AreOfItem item (finite.empty {X = V})
none_of_item V item v some =
    absurd (true≢false (sym some ∙ ap is_some (finite.get-empty {X = V} address_cmp v)))

module _ {V : Type 0} where
  abbrev pub those_of : Address → List (Address × V) → List (Address × V)
  those_of item es = filter (λ e. is_of item e.0) es

  all_own : (item : Address) (m : FinMap address_cmp V) → AreOfItem item m
      → those_of item (finite.entries m) ≡ finite.entries m
  all_own item m own =
      filter_all (λ e. is_of item e.0) (finite.entries m)
      (All-weaker (λ e. item_of e.0 ≡ item) (λ e. is_of item e.0 ≡ true)
      (λ e is. is_own item e.0 is) (finite.entries m) (own_addresses item m own))

  none_own : (item other : Address) (m : FinMap address_cmp V) → AreOfItem other m → other ≢ item
      → those_of item (finite.entries m) ≡ []
  none_own item other m own ne =
      filter_nothing (λ e. is_of item e.0) (finite.entries m)
      (All-weaker (λ e. item_of e.0 ≡ other) (λ e. is_of item e.0 ≡ false)
      (λ e is. not_own item e.0 (λ s. ne (sym is ∙ s))) (finite.entries m)
      (own_addresses other m own))

  -- ---- in the list of the item's root, and in that of another

  in_own_root : (root : Root) (n : ℕ) (items : List (ItemEntries V)) → Rise item_number items
      → All (IsOwn root) items
      → those_of (root_address root n) (of_items items)
      ≡ finite.entries (entries_in (numbered.find item_number n items))
  in_own_root root n [] rise own = sym (entries_empty address_cmp)
  in_own_root root n (item ∷ items) rise own =
      let at : Address = root_address root n in
      let rest = in_own_root root n items (Rise-tail item_number item items rise)
      (All-tail (IsOwn root) item items own) in
      let first = All-head (IsOwn root) item items own in
      filter-append (λ e. is_of at e.0) (entries_of item) (of_items items)
      ∙ elim (cases_eq item.number n) [
        | inl e ↦
            let nothing : those_of at (of_items items) ≡ [] =
            rest ∙ ap (λ o. finite.entries (entries_in o))
            (find-past item_number item items n (omega (arith, e)) rise)
            ∙ entries_empty address_cmp in
            let mine : those_of at (entries_of item) ≡ entries_of item =
            all_own at item.entries
            (subst (λ k. AreOfItem (root_address root k) item.entries) e first) in
            ap (λ es. es ++ those_of at (of_items items)) mine
            ∙ ap (λ es. entries_of item ++ es) nothing
            ∙ append-nil (entries_of item)
            ∙ ap (λ o. finite.entries (entries_in o)) (sym (find-first item_number n item items e))
        | inr ne ↦
            let none : those_of at (entries_of item) ≡ [] =
            none_own at (root_address root item.number) item.entries first
            (λ s. ne (ap (λ v. v.number) s)) in
            ap (λ es. es ++ those_of at (of_items items)) none
            ∙ rest
            ∙ ap (λ o. finite.entries (entries_in o)) (sym (find-rest item_number n item items ne))
      ]

  in_other_root : (root : Root) (item : Address) → item.root ≢ root
      → (items : List (ItemEntries V)) → All (IsOwn root) items
      → those_of item (of_items items) ≡ []
  in_other_root root item ne items own =
      filter_nothing (λ e. is_of item e.0) (of_items items)
      (All-weaker (λ e. e.0.root ≡ root) (λ e. is_of item e.0 ≡ false)
      (λ e is. not_own item e.0 (λ s. ne (sym (ap (λ v. v.root) s) ∙ is))) (of_items items)
      (roots_of root items own))

  -- ---- in all lists

  module _ (roots : ByRoot V) (h : AreRootsInOrder roots) where
    split : (at : Address) → those_of at (of_items (all_items roots))
        ≡ those_of at (of_items (items_of roots Variable))
        ++ (those_of at (of_items (items_of roots Group))
        ++ (those_of at (of_items (items_of roots Row))
        ++ those_of at (of_items (items_of roots Objective))))
    split at =
        let p : Address × V → Bool = λ e. is_of at e.0 in
        let vs : List (Address × V) = of_items (items_of roots Variable) in
        let gs : List (Address × V) = of_items (items_of roots Group) in
        let rs : List (Address × V) = of_items (items_of roots Row) in
        let os : List (Address × V) = of_items (items_of roots Objective) in
        ap (filter p) (parted roots)
        ∙ filter-append p vs (gs ++ (rs ++ os))
        ∙ ap (λ es. filter p vs ++ es) (filter-append p gs (rs ++ os)
        ∙ ap (λ es. filter p gs ++ es) (filter-append p rs os))

    mine : (root : Root) (n : ℕ) → those_of (root_address root n) (of_items (items_of roots root))
        ≡ finite.entries (own_entries roots (root_address root n))
    mine root n =
        in_own_root root n (items_of roots root) (h.each root).rise (h.each root).own

    other : (root : Root) (item : Address) → item.root ≢ root
        → those_of item (of_items (items_of roots root)) ≡ []
    other root item ne = in_other_root root item ne (items_of roots root) (h.each root).own

    pub own_of : (root : Root) (n : ℕ) → those_of (root_address root n) (of_items (all_items roots))
        ≡ finite.entries (own_entries roots (root_address root n))
    own_of Variable n =
        let at : Address = root_address Variable n in
        split at
        ∙ (λ i. mine Variable n i ++ (other Group at (λ e. cc) i
        ++ (other Row at (λ e. cc) i ++ other Objective at (λ e. cc) i)))
        ∙ append-nil (finite.entries (own_entries roots at))
    own_of Group n =
        let at : Address = root_address Group n in
        split at
        ∙ (λ i. other Variable at (λ e. cc) i ++ (mine Group n i
        ++ (other Row at (λ e. cc) i ++ other Objective at (λ e. cc) i)))
        ∙ append-nil (finite.entries (own_entries roots at))
    own_of Row n =
        let at : Address = root_address Row n in
        split at
        ∙ (λ i. other Variable at (λ e. cc) i ++ (other Group at (λ e. cc) i
        ++ (mine Row n i ++ other Objective at (λ e. cc) i)))
        ∙ append-nil (finite.entries (own_entries roots at))
    own_of Objective n =
        let at : Address = root_address Objective n in
        split at
        ∙ (λ i. other Variable at (λ e. cc) i ++ (other Group at (λ e. cc) i
        ++ (other Row at (λ e. cc) i ++ mine Objective n i)))

    -- what the map has at an address is what its item has there
    pub got : (at : Address) → finite.get (map_in roots) at ≡ finite.get (own_entries roots at) at
    got at =
        let es : List (Address × V) = of_items (all_items roots) in
        let p : Address → Bool = is_of (item_of at) in
        finite.get-from_sorted address_cmp es at (all_rise roots h)
        ∙ ap (λ b. cond b (finite.find address_cmp at es) None) (sym (is_own (item_of at) at refl))
        ∙ sym (find-where_key address_cmp p at (λ x e. ap p (sym (exact_addresses at x e))) es)
        ∙ ap (finite.find address_cmp at) (own_of at.root at.number)
        ∙ sym (finite.get-entries (own_entries roots at) at)

    -- at or below an item of the model
    pub of_item : (item : Address) → item.positions ≡ []
        → those_of item (finite.entries (map_in roots)) ≡ finite.entries (own_entries roots item)
    of_item item e =
        ap (those_of item) (entries_are roots h)
        ∙ ap (λ v. those_of v (of_items (all_items roots))) (whole e)
        ∙ own_of item.root item.number
      where
        whole : item.positions ≡ [] → item ≡ root_address item.root item.number
        whole e = λ i. record { root = item.root; number = item.number; positions = e i }

    -- the item of an address has no more entries than the map
    pub own_fits : (at : Address)
        → length (finite.keys (own_entries roots at)) ≤ finite.len (map_in roots)
    own_fits at =
        let p : Address × V → Bool = λ e. is_of (item_of at) e.0 in
        let es : List (Address × V) = of_items (all_items roots) in
        let parts = length-filter_both p (λ e. not (p e)) (λ e. refl) es in
        omega (
          arith,
          parts,
          length-map (finite.entries (own_entries roots at)) (λ e. e.0),
          ap length (own_of at.root at.number),
          finite.len-entries (map_in roots),
          ap length (entries_are roots h),
        )

    -- and these are of the item
    pub own_are : (at : Address) → AreOfItem (item_of at) (own_entries roots at)
    own_are at = found (own roots at) refl
      where
        found : (o : Option (ItemEntries V)) → own roots at ≡ o
            → AreOfItem (item_of at) (entries_in o)
        found None is = λ v some.
            absurd (true≢false (sym some ∙ ap is_some (finite.get-empty {X = V} address_cmp v)))
        found (Some item) is =
            subst (λ n. AreOfItem (root_address at.root n) item.entries)
            (number_of_found item_number at.number item (items_of roots at.root) is)
            (All-contains (IsOwn at.root) (items_of roots at.root) item (h.each at.root).own
            (Contains-found item_number at.number item (items_of roots at.root) is))

    -- where the map has something, there is an item, and so there is room for it
    pub room_there : (at : Address) → IsSome (finite.get (map_in roots) at)
        → HasRoomAt roots at.root at.number
    room_there at some none = absurd (by (own roots at) refl)
      where
        by : (o : Option (ItemEntries V)) → own roots at ≡ o → ⊥
        by None is =
            true≢false (sym some ∙ ap is_some (got at ∙ ap (λ o. finite.get (entries_in o) at) is
            ∙ finite.get-empty address_cmp at))
        by (Some item) is = true≢false (sym (ap is_some is) ∙ none)

  -- ---- what a look-up of an item's entries says

  pub found_is : (o : Option (ItemEntries V)) (m : FinMap address_cmp V)
      → Some m ≡ option_map (λ item. item.entries) o → m ≡ entries_in o
  found_is None m e = cc
  found_is (Some item) m e = cc

  pub missing_is : (o : Option (ItemEntries V)) → None ≡ option_map (λ item. item.entries) o
      → entries_in o ≡ finite.empty
  missing_is None e = refl
  missing_is (Some item) e = cc

  -- ---- an address below the item's own is that of no item

  pub none_below : (item : Address) (es : List (Address × V)) → 0 < length item.positions
      → those_of item es ≡ []
  none_below item es lt =
      filter_nothing (λ e. is_of item e.0) es (λ k d within.
      not_own item (slice_index_or es k d).0
      (λ s. omega (arith, ap (λ v. length v.positions) s)))

  -- ---- the first that passes, and the keys

  pub first_there : (p : Address → Bool) (es : List (Address × V)) (e : Address × V)
      (rest : List (Address × V)) → filter (λ d. p d.0) es ≡ e ∷ rest
      → Some e.0 ≡ find p (map (λ d. d.0) es)
  first_there p [] e rest is = cc
  first_there p (x ∷ es) e rest is =
      elim (p x.0) as (λ b. cond b (x ∷ filter (λ d. p d.0) es) (filter (λ d. p d.0) es) ≡ e ∷ rest
      → Some e.0 ≡ cond b (Some x.0) (find p (map (λ d. d.0) es))) [
        | true ↦ λ is. let same : e ≡ x = cc in ap (λ (d : Address × V). Some d.0) same
        | false ↦ λ is. first_there p es e rest is
      ] is

  pub none_there : (p : Address → Bool) (es : List (Address × V))
      → filter (λ d. p d.0) es ≡ [] → None ≡ find p (map (λ d. d.0) es)
  none_there p [] is = refl
  none_there p (x ∷ es) is =
      elim (p x.0) as (λ b. cond b (x ∷ filter (λ d. p d.0) es) (filter (λ d. p d.0) es) ≡ []
      → None ≡ cond b (Some x.0) (find p (map (λ d. d.0) es))) [
        | true ↦ λ is. cc
        | false ↦ λ is. none_there p es is
      ] is
