-- Entries of items, one after the other, rise.
use Rattle.std.specs.Prelude.{◌≡◌, ◌<◌, ℕ, T, List, [], ◌∷◌, ◌++◌, All, IsSome, length, slice_index_or, refl}
use Rattle.std.proofs.Common.{arith, sym, ap, subst, ◌∙◌}
use Rattle.std.proofs.lemmas.List.Concat.{flat_map-append}
use Rattle.std.proofs.lemmas.List.Elements.{All-append, All-head, All-nil, All-tail, All-weaker}
use Rattle.std.specs.Cmp.{nat_cmp_total, tied_itself}
use Rattle.std.specs.Cmp.Lexicographic.{slice_cmp}
use Rattle.std.specs.List.{flat_map}
use Rattle.std.specs.Ordering.{is_lt, nat_cmp, ordering_then}
use Rattle.std.specs.declared.cmp.Ordering.TheVariants.{Less}
use Rattle.std.specs.FinMap as finite
use Rattle.std.specs.FinMap.{FinMap, is_sorted}
use Rattle.std.specs.FinMap.Entries.{below_all}
use Rattle.aff_core.specs.Address.{Address, address_cmp, address_total, root_address, root_number}
use Rattle.aff_core.specs.declared.root.Root.{Root}
use Rattle.aff_core.specs.declared.root.Root.TheVariants.{Variable, Group, Row, Objective}
use Rattle.map_laws.specs.EntryLaws.{find_at}
use Rattle.map_laws.specs.TestLaws.{both, first, second, less_number}
use Rattle.numbered_list.specs.Numbered.{Rise}
use Rattle.numbered_list.specs.Laws.{Rise-head, Rise-tail}
use Rattle.item_map.specs.ItemAddresses.{item_of}
use Rattle.item_map.specs.ItemLists.{AreOfItem, AreRootsInOrder, all_items, entries_of, item_number, items_of, of_items}
use Rattle.item_map.specs.declared.item_entries.ItemEntries.{ItemEntries}
use Rattle.item_map.specs.declared.roots.ByRoot.{ByRoot}

-- ---- addresses of two items

of_lesser_root : (a b : Address) → root_number a.root < root_number b.root
    → address_cmp a b ≡ Less
unfolding address_cmp
of_lesser_root a b lt =
    ap (λ o. ordering_then o (ordering_then (nat_cmp a.number b.number)
    (slice_cmp nat_cmp a.positions b.positions)))
    (less_number (root_number a.root) (root_number b.root) lt)

of_lesser_number : (a b : Address) → a.root ≡ b.root → a.number < b.number
    → address_cmp a b ≡ Less
unfolding address_cmp
of_lesser_number a b e lt =
    ap (λ r. ordering_then (nat_cmp (root_number r) (root_number b.root))
    (ordering_then (nat_cmp a.number b.number) (slice_cmp nat_cmp a.positions b.positions))) e
    ∙ ap (λ o. ordering_then o (ordering_then (nat_cmp a.number b.number)
    (slice_cmp nat_cmp a.positions b.positions)))
    (tied_itself nat_cmp_total (root_number b.root))
    ∙ ap (λ o. ordering_then o (slice_cmp nat_cmp a.positions b.positions))
    (less_number a.number b.number lt)

-- ---- lists one after the other

All-each : {X Y : Type 0} (P : Y → Type 0) (f : X → List Y) (xs : List X)
    → All (λ x. All P (f x)) xs → All P (flat_map f xs)
All-each P f [] h = All-nil P
All-each P f (x ∷ xs) h =
    All-append P (f x) (flat_map f xs) (All-head (λ x. All P (f x)) x xs h)
    (All-each P f xs (All-tail (λ x. All P (f x)) x xs h))

module _ {V : Type 0} where
  below_both : (a : Address) (es fs : List (Address × V)) → T (below_all address_cmp a es)
      → T (below_all address_cmp a fs) → T (below_all address_cmp a (es ++ fs))
  below_both a [] fs h k = k
  below_both a (e ∷ es) fs h k =
      both _ _ (first _ _ h) (below_both a es fs (second _ _ h) k)

  below_each : (a : Address) (es : List (Address × V)) → All (λ e. address_cmp a e.0 ≡ Less) es
      → T (below_all address_cmp a es)
  below_each a [] h = tt
  below_each a (e ∷ es) h =
      both _ _ (subst (λ o. T (is_lt o)) (sym (All-head (λ e. address_cmp a e.0 ≡ Less) e es h)) tt)
      (below_each a es (All-tail (λ e. address_cmp a e.0 ≡ Less) e es h))

  both_rise : (es fs : List (Address × V)) → T (is_sorted address_cmp es)
      → T (is_sorted address_cmp fs) → All (λ e. T (below_all address_cmp e.0 fs)) es
      → T (is_sorted address_cmp (es ++ fs))
  both_rise [] fs h k low = k
  both_rise (e ∷ es) fs h k low =
      both _ _
      (below_both e.0 es fs (first _ _ h) (All-head (λ e. T (below_all address_cmp e.0 fs)) e es low))
      (both_rise es fs (second _ _ h) k (All-tail (λ e. T (below_all address_cmp e.0 fs)) e es low))

  -- ---- the entries of an item

  abbrev pub IsOwn : Root → ItemEntries V → Type 0
  IsOwn root item = AreOfItem (root_address root item.number) item.entries

  pub own_addresses : (item : Address) (m : FinMap address_cmp V) → AreOfItem item m
      → All (λ e. item_of e.0 ≡ item) (finite.entries m)
  own_addresses item m own = λ k d lt. own (slice_index_or (finite.entries m) k d).0 (there k d lt)
    where
      there : (k : ℕ) (d : Address × V) → k < length (finite.entries m)
          → IsSome (finite.get m (slice_index_or (finite.entries m) k d).0)
      there k d lt =
          let at : Address = (slice_index_or (finite.entries m) k d).0 in
          subst IsSome (sym (finite.get-entries m at
          ∙ find_at address_total at (finite.entries m) k d (finite.entries_sorted m) lt
          (tied_itself address_total at))) refl

  below_items : (a : Address) (items : List (ItemEntries V))
      → All (λ item. All (λ e. address_cmp a e.0 ≡ Less) (entries_of item)) items
      → T (below_all address_cmp a (of_items items))
  below_items a items h =
      below_each a (of_items items) (All-each (λ e. address_cmp a e.0 ≡ Less) entries_of items h)

  -- an address of a lesser number, or of an earlier root
  below_later : (root : Root) (n : ℕ) (a : Address) → item_of a ≡ root_address root n
      → (items : List (ItemEntries V)) → All (λ item. n < item.number) items
      → All (IsOwn root) items → T (below_all address_cmp a (of_items items))
  below_later root n a of items later own =
      below_items a items (λ k d lt.
      let item : ItemEntries V = slice_index_or items k d in
      All-weaker (λ e. item_of e.0 ≡ root_address root item.number)
      (λ e. address_cmp a e.0 ≡ Less)
      (λ e is. of_lesser_number a e.0 (ap (λ v. v.root) of ∙ sym (ap (λ v. v.root) is)) (less e.0 item (ap (λ v. v.number) is) (later k d lt)))
      (entries_of item)
      (own_addresses (root_address root item.number) item.entries (own k d lt)))
    where
      less : (v : Address) (item : ItemEntries V) → v.number ≡ item.number → n < item.number
          → a.number < v.number
      less v item is lt = omega (arith, is, lt, ap (λ v. v.number) of)

  below_other : (root : Root) (a : Address) → root_number a.root < root_number root
      → (items : List (ItemEntries V)) → All (IsOwn root) items
      → T (below_all address_cmp a (of_items items))
  below_other root a lt items own =
      below_items a items (λ k d within.
      let item : ItemEntries V = slice_index_or items k d in
      All-weaker (λ e. item_of e.0 ≡ root_address root item.number)
      (λ e. address_cmp a e.0 ≡ Less)
      (λ e is. of_lesser_root a e.0 (subst (λ r. root_number a.root < root_number r)
      (sym (ap (λ v. v.root) is)) lt))
      (entries_of item)
      (own_addresses (root_address root item.number) item.entries (own k d within)))

  -- ---- the entries of a root's items

  one_rises : (root : Root) (items : List (ItemEntries V)) → Rise item_number items
      → All (IsOwn root) items → T (is_sorted address_cmp (of_items items))
  one_rises root [] rise own = tt
  one_rises root (item ∷ items) rise own =
      both_rise (entries_of item) (of_items items) (finite.entries_sorted item.entries)
      (one_rises root items (Rise-tail item_number item items rise)
      (All-tail (IsOwn root) item items own))
      (All-weaker (λ e. item_of e.0 ≡ root_address root item.number)
      (λ e. T (below_all address_cmp e.0 (of_items items)))
      (λ e of. below_later root item.number e.0 of items (Rise-head item_number item items rise)
      (All-tail (IsOwn root) item items own))
      (entries_of item)
      (own_addresses (root_address root item.number) item.entries
      (All-head (IsOwn root) item items own)))

  pub roots_of : (root : Root) (items : List (ItemEntries V)) → All (IsOwn root) items
      → All (λ e. e.0.root ≡ root) (of_items items)
  roots_of root items own =
      All-each (λ e. e.0.root ≡ root) entries_of items (λ k d lt.
      let item : ItemEntries V = slice_index_or items k d in
      All-weaker (λ e. item_of e.0 ≡ root_address root item.number) (λ e. e.0.root ≡ root)
      (λ e is. ap (λ v. v.root) is) (entries_of item)
      (own_addresses (root_address root item.number) item.entries (own k d lt)))

  -- ---- all entries

  pub parted : (roots : ByRoot V) → of_items (all_items roots)
      ≡ of_items (items_of roots Variable) ++ (of_items (items_of roots Group)
      ++ (of_items (items_of roots Row) ++ of_items (items_of roots Objective)))
  parted roots =
      let vs : List (ItemEntries V) = items_of roots Variable in
      let gs : List (ItemEntries V) = items_of roots Group in
      let rs : List (ItemEntries V) = items_of roots Row in
      let os : List (ItemEntries V) = items_of roots Objective in
      flat_map-append entries_of vs (gs ++ (rs ++ os))
      ∙ ap (λ es. of_items vs ++ es) (flat_map-append entries_of gs (rs ++ os)
      ∙ ap (λ es. of_items gs ++ es) (flat_map-append entries_of rs os))

  pub all_rise : (roots : ByRoot V) → AreRootsInOrder roots
      → T (is_sorted address_cmp (of_items (all_items roots)))
  all_rise roots h =
      subst (λ es. T (is_sorted address_cmp es)) (sym (parted roots))
      (with_later Variable (of_items (items_of roots Group) ++ (of_items (items_of roots Row) ++ of_items (items_of roots Objective)))
      (with_later Group (of_items (items_of roots Row) ++ of_items (items_of roots Objective))
      (with_later Row (of_items (items_of roots Objective)) (rises Objective)
      (λ a is. below a Row Objective is (omega arith)))
      (λ a is. below_both a (of_items (items_of roots Row)) (of_items (items_of roots Objective)) (below a Group Row is (omega arith))
      (below a Group Objective is (omega arith))))
      (λ a is. below_both a (of_items (items_of roots Group)) (of_items (items_of roots Row) ++ of_items (items_of roots Objective))
      (below a Variable Group is (omega arith))
      (below_both a (of_items (items_of roots Row)) (of_items (items_of roots Objective)) (below a Variable Row is (omega arith))
      (below a Variable Objective is (omega arith)))))
    where
      rises : (root : Root) → T (is_sorted address_cmp (of_items (items_of roots root)))
      rises root = one_rises root (items_of roots root) (h.each root).rise (h.each root).own

      below : (a : Address) (r s : Root) → a.root ≡ r → root_number r < root_number s
          → T (below_all address_cmp a (of_items (items_of roots s)))
      below a r s is lt =
          below_other s a (subst (λ r. root_number r < root_number s) (sym is) lt)
          (items_of roots s) (h.each s).own

      with_later : (root : Root) (fs : List (Address × V)) → T (is_sorted address_cmp fs)
          → ((a : Address) → a.root ≡ root → T (below_all address_cmp a fs))
          → T (is_sorted address_cmp (of_items (items_of roots root) ++ fs))
      with_later root fs rest low =
          both_rise (of_items (items_of roots root)) fs (rises root) rest
          (All-weaker (λ e. e.0.root ≡ root) (λ e. T (below_all address_cmp e.0 fs))
          (λ e is. low e.0 is) (of_items (items_of roots root))
          (roots_of root (items_of roots root) (h.each root).own))

  pub entries_are : (roots : ByRoot V) → AreRootsInOrder roots
      → finite.entries (finite.from_sorted {R = address_cmp} (of_items (all_items roots)))
      ≡ of_items (all_items roots)
  entries_are roots h =
      finite.entries-from_sorted address_cmp (of_items (all_items roots)) (all_rise roots h)
