-- One item's entries change: what that leaves of the lists, and of the map.
use Rattle.std.specs.Prelude.{◌≡◌, ◌≢◌, ◌+◌, ◌-◌, ◌<◌, ◌≤◌, ◌^◌, ℕ, Bool, true, false, cond, List, [], ◌++◌, All, IfSome, IsNone, IsSome, Option, Some, None, is_some, length, nat_lt, suc, zero, refl}
use Rattle.std.proofs.Common.{arith, inl, inr, sym, ap, subst, true≢false, ◌∙◌}
use Rattle.std.proofs.lemmas.Bool.{cases_eq}
use Rattle.std.proofs.lemmas.List.Elements.{All-append, All-cons, All-filter, All-nil}
use Rattle.std.specs.Option.{option_to_list}
use Rattle.std.specs.FinMap as finite
use Rattle.std.specs.FinMap.{FinMap}
use Rattle.std.specs.Ordering.{eq_by_cmp}
use Rattle.aff_core.specs.Address.{Address, address_cmp, address_total, exact_addresses, root_address, root_number, root_number-injective}
use Rattle.aff_core.specs.KeyOrder.{address_order, key_eq-Decides, other_key}
use Rattle.aff_core.specs.declared.root.Root.{Root}
use Rattle.aff_core.specs.declared.root.Root.TheVariants.{Variable, Group, Row, Objective}
use Rattle.map_laws.specs.MadeLaws.{entries_empty}
use Rattle.numbered_list.specs.Listed.{Listed}
use Rattle.numbered_list.specs.Numbered as numbered
use Rattle.numbered_list.specs.Numbered.{IsAt, Rise, set_at}
use Rattle.numbered_list.specs.Laws.{Rise-nil}
use Rattle.numbered_list.specs.SetLaws.{Rise-set_at, find-set_at_other, find-set_at_same, length-set_at}
use Rattle.item_map.specs.ItemAddresses.{is_of, item_of}
use Rattle.item_map.specs.ItemLists.{AreOf, AreOfItem, AreRootsInOrder, HasNone, HasRoomAt, HaveRoom, HaveRoomBeside, IsChangedAt, IsEmptied, IsItemWith, IsKept, IsRoomier, IsSetAt, entries_in, item_number, items_of, list_of, map_in, of_items, own, own_entries}
use Rattle.item_map.specs.declared.item_entries.ItemEntries.{ItemEntries}
use Rattle.item_map.specs.declared.roots.ByRoot.{ByRoot}
use Rattle.item_map.proofs.RiseLaws.{IsOwn}
use Rattle.item_map.proofs.OwnLaws.{got, is_own, none_of_item, of_same}

same_or_not : (r s : Root) (C : Type 0) → (r ≡ s → C) → (r ≢ s → C) → C
same_or_not r s C same other =
    elim (cases_eq (root_number r) (root_number s)) [
      | inl e ↦ same (root_number-injective r s e)
      | inr ne ↦ other (λ e. ne (ap root_number e))
    ]

pub All-set_at : {X : Type 0} (number_of : X → ℕ) (P : X → Type 0) (n : ℕ) (new : Option X)
    (xs : List X) → IfSome new P → All P xs → All P (set_at number_of n new xs)
unfolding set_at
All-set_at {X = X} number_of P n new xs here all =
    All-append P (numbered.below number_of n xs)
    (option_to_list new ++ numbered.above number_of n xs)
    (All-filter (λ x. nat_lt (number_of x) n) P xs all) (with_new new here)
  where
    above : All P (numbered.above number_of n xs)
    above = All-filter (λ x. nat_lt n (number_of x)) P xs all

    with_new : (o : Option X) → IfSome o P
        → All P (option_to_list o ++ numbered.above number_of n xs)
    with_new None h = above
    with_new (Some x) h = All-cons P x (numbered.above number_of n xs) h above

module _ {V : Type 0} where
  -- ---- more room

  module _ (a b : ByRoot V) (more : IsRoomier a b) where
    pub roomier_order : AreRootsInOrder a → AreRootsInOrder b
    roomier_order h = record {
      each = λ root. record {
        rise = subst (Rise item_number) (sym (more.same root)) (h.each root).rise;
        own = subst (All (IsOwn root)) (sym (more.same root)) (h.each root).own;
        fits = omega (arith, ap length (more.same root), more.room root, (h.each root).fits);
      };
    }

    pub roomier_own : (v : Address) → own_entries b v ≡ own_entries a v
    roomier_own v =
        ap (λ items. entries_in (numbered.find item_number v.number items)) (more.same v.root)

    pub roomier_map : map_in b ≡ map_in a
    roomier_map = λ i. finite.from_sorted (of_items (more.same Variable i
        ++ (more.same Group i ++ (more.same Row i ++ more.same Objective i))))

    pub roomier_room : (spare : ℕ) → HaveRoom a spare → HaveRoom b spare
    roomier_room spare h root =
        omega (arith, ap length (more.same root), more.room root, h root)

    pub roomier_kept : (nothing : FinMap address_cmp V) (len spare new : ℕ)
        → IsKept a nothing len spare → HaveRoom b new → len + new < 2 ^ 64
        → IsKept b nothing len new
    roomier_kept nothing len spare new h room fits = record {
      order = roomier_order h.order;
      empty = h.empty;
      count = h.count ∙ sym (ap finite.len roomier_map);
      room = room;
      fits = fits;
    }

  -- ---- another item at a number

  module _ (a b : ByRoot V) (root : Root) (n : ℕ) (new : Option (ItemEntries V))
      (set : IsSetAt root n new a b) (at : IsAt item_number n new) where
    pub set_found : (v : Address) → item_of v ≡ root_address root n → own b v ≡ new
    set_found v is =
        ap (λ (w : Address). own b w) is
        ∙ ap (numbered.find item_number n) set.here
        ∙ find-set_at_same item_number n new (items_of a root) at

    pub set_elsewhere : (v : Address) → item_of v ≢ root_address root n → own b v ≡ own a v
    set_elsewhere v ne =
        same_or_not v.root root (own b v ≡ own a v)
        (λ same. in_list same (λ e. ne (λ i. root_address (same i) (e i))))
        (λ other. ap (λ (l : Listed (ItemEntries V)). numbered.find item_number v.number l.items)
        (set.others v.root other))
      where
        in_list : v.root ≡ root → v.number ≢ n → own b v ≡ own a v
        in_list same other =
            ap (λ r. numbered.find item_number v.number (items_of b r)) same
            ∙ ap (numbered.find item_number v.number) set.here
            ∙ find-set_at_other item_number v.number n new (items_of a root) other at
            ∙ ap (λ r. numbered.find item_number v.number (items_of a r)) (sym same)

    pub set_order : AreRootsInOrder a → AreOfItem (root_address root n) (entries_in new)
        → (IsSome new → HasRoomAt a root n) → AreRootsInOrder b
    set_order h own room = record {
      each = λ r. same_or_not r root (AreOf r (list_of b r))
          (λ same. subst (λ s. AreOf s (list_of b s)) (sym same) here)
          (λ other. subst (AreOf r) (sym (set.others r other)) (h.each r));
    }
      where
        of_new : (o : Option (ItemEntries V)) → IsAt item_number n o
            → AreOfItem (root_address root n) (entries_in o) → IfSome o (IsOwn root)
        of_new None at own = tt
        of_new (Some item) at own =
            subst (λ k. AreOfItem (root_address root k) item.entries) (sym at) own

        long : (o old : Option (ItemEntries V)) (before after room : ℕ)
            → (IsSome o → IsNone old → before < room) → before ≤ room
            → after + length (option_to_list old) ≡ before + length (option_to_list o)
            → after ≤ room
        long None None before after room fits le e = omega (arith, le, e)
        long None (Some y) before after room fits le e = omega (arith, le, e)
        long (Some x) None before after room fits le e = omega (arith, fits refl refl, e)
        long (Some x) (Some y) before after room fits le e = omega (arith, le, e)

        here : AreOf root (list_of b root)
        here = record {
          rise = subst (Rise item_number) (sym set.here)
              (Rise-set_at item_number n new (items_of a root) at (h.each root).rise);
          own = subst (All (IsOwn root)) (sym set.here)
              (All-set_at item_number (IsOwn root) n new (items_of a root) (of_new new at own)
              (h.each root).own);
          fits = omega (
            arith,
            ap length set.here,
            set.room,
            long new (numbered.find item_number n (items_of a root)) (length (items_of a root))
                (length (set_at item_number n new (items_of a root))) (list_of a root).room room
                (h.each root).fits
                (length-set_at item_number n new (items_of a root) (h.each root).rise),
          );
        }

  pub set_changed : (at : Address) (a b : ByRoot V) (new : Option (ItemEntries V))
      → IsSetAt at.root at.number new a b → IsAt item_number at.number new
      → IsChangedAt at (entries_in new) a b
  set_changed at a b new set is = record {
    here = ap entries_in (set_found a b at.root at.number new set is at refl);
    elsewhere = λ v ne. ap entries_in (set_elsewhere a b at.root at.number new set is v ne);
  }

  -- where an item was taken out, or there is room for one more, it can be put
  pub room_left : (at : Address) (a b : ByRoot V) → IsSetAt at.root at.number None a b
      → AreRootsInOrder a → HasRoomAt a at.root at.number → HasRoomAt b at.root at.number
  room_left at a b set h room = λ none. omega (
    arith,
    ap length set.here,
    set.room,
    left (numbered.find item_number at.number (items_of a at.root)) (length (items_of a at.root))
        (length (set_at item_number at.number None (items_of a at.root))) (list_of a at.root).room
        room (h.each at.root).fits
        (length-set_at item_number at.number None (items_of a at.root) (h.each at.root).rise),
  )
    where
      left : (old : Option (ItemEntries V)) (before after room : ℕ)
          → (IsNone old → before < room) → before ≤ room
          → after + length (option_to_list old) ≡ before + 0 → after < room
      left None before after room fits le e = omega (arith, fits refl, e)
      left (Some y) before after room fits le e = omega (arith, le, e)

  -- ---- the map

  pub chained : (at : Address) (e f : FinMap address_cmp V) (a b c : ByRoot V)
      → IsChangedAt at e a b → IsChangedAt at f b c → IsChangedAt at f a c
  chained at e f a b c first second = record {
    here = second.here;
    elsewhere = λ v ne. second.elsewhere v ne ∙ first.elsewhere v ne;
  }

  module _ (at : Address) (a b : ByRoot V) (was : AreRootsInOrder a) (is : AreRootsInOrder b) where
    same_own : (roots : ByRoot V) (v : Address) → is_of (item_of at) v ≡ true
        → own_entries roots v ≡ own_entries roots at
    same_own roots v e =
        ap (λ (w : Address). own_entries roots w) (of_same (item_of at) v e)

    here_now : (f : FinMap address_cmp V) → IsChangedAt at f a b → (v : Address)
        → is_of (item_of at) v ≡ true → finite.get (map_in b) v ≡ finite.get f v
    here_now f change v e =
        got b is v ∙ ap (λ m. finite.get m v) (same_own b v e ∙ change.here)

    there_now : (f : FinMap address_cmp V) → IsChangedAt at f a b → (v : Address)
        → is_of (item_of at) v ≡ false → finite.get (map_in b) v ≡ finite.get (map_in a) v
    there_now f change v e =
        got b is v
        ∙ ap (λ m. finite.get m v)
        (change.elsewhere v (λ same. true≢false (sym (is_own (item_of at) v same) ∙ e)))
        ∙ sym (got a was v)

    here_before : (v : Address) → is_of (item_of at) v ≡ true
        → finite.get (own_entries a at) v ≡ finite.get (map_in a) v
    here_before v e = ap (λ m. finite.get m v) (sym (same_own a v e)) ∙ sym (got a was v)

    not_at : (v : Address) → is_of (item_of at) v ≡ false → eq_by_cmp address_cmp v at ≡ false
    not_at v e = other_key address_order v at
        (λ same. true≢false (sym (is_own (item_of at) v (ap item_of same)) ∙ e))

    -- the item has one entry more, or another value
    pub inserted_map : (x : V) → IsChangedAt at (finite.insert (own_entries a at) at x) a b
        → map_in b ≡ finite.insert (map_in a) at x
    inserted_map x change =
        finite.same_map address_total exact_addresses (map_in b) (finite.insert (map_in a) at x)
        (λ v. by v (is_of (item_of at) v) refl
        ∙ sym (finite.get-insert address_total (map_in a) at x v))
      where
        by : (v : Address) (t : Bool) → is_of (item_of at) v ≡ t
            → finite.get (map_in b) v
            ≡ cond (eq_by_cmp address_cmp v at) (Some x) (finite.get (map_in a) v)
        by v true e =
            here_now (finite.insert (own_entries a at) at x) change v e
            ∙ finite.get-insert address_total (own_entries a at) at x v
            ∙ ap (cond (eq_by_cmp address_cmp v at) (Some x)) (here_before v e)
        by v false e =
            there_now (finite.insert (own_entries a at) at x) change v e
            ∙ ap (λ t. cond t (Some x) (finite.get (map_in a) v)) (sym (not_at v e))

    -- the item has one entry less
    pub removed_map : IsChangedAt at (finite.remove (own_entries a at) at) a b
        → map_in b ≡ finite.remove (map_in a) at
    removed_map change =
        finite.same_map address_total exact_addresses (map_in b) (finite.remove (map_in a) at)
        (λ v. by v (is_of (item_of at) v) refl
        ∙ sym (finite.get-remove address_total (map_in a) at v))
      where
        by : (v : Address) (t : Bool) → is_of (item_of at) v ≡ t
            → finite.get (map_in b) v
            ≡ cond (eq_by_cmp address_cmp v at) None (finite.get (map_in a) v)
        by v true e =
            here_now (finite.remove (own_entries a at) at) change v e
            ∙ finite.get-remove address_total (own_entries a at) at v
            ∙ ap (cond (eq_by_cmp address_cmp v at) None) (here_before v e)
        by v false e =
            there_now (finite.remove (own_entries a at) at) change v e
            ∙ ap (λ t. cond t None (finite.get (map_in a) v)) (sym (not_at v e))

  -- the entries of an item taken out, and put back with one more, or one less
  module _ (at : Address) (a b c : ByRoot V) (entries : FinMap address_cmp V)
      (was : AreRootsInOrder a) (is : AreRootsInOrder c) (out : IsChangedAt at finite.empty a b)
      (back : IsChangedAt at entries b c) where
    pub put_in : (x : V) → entries ≡ finite.insert (own_entries a at) at x
        → map_in c ≡ finite.insert (map_in a) at x
    put_in x e =
        inserted_map at a c was is x
        (subst (λ m. IsChangedAt at m a c) e (chained at finite.empty entries a b c out back))

    pub taken_from : entries ≡ finite.remove (own_entries a at) at
        → map_in c ≡ finite.remove (map_in a) at
    taken_from e =
        removed_map at a c was is
        (subst (λ m. IsChangedAt at m a c) e (chained at finite.empty entries a b c out back))

  -- ---- entries of one item

  pub inserted_own : (at : Address) (m : FinMap address_cmp V) (x : V) → AreOfItem (item_of at) m
      → AreOfItem (item_of at) (finite.insert m at x)
  inserted_own at m x own v some = by (eq_by_cmp address_cmp v at) refl
    where
      by : (t : Bool) → eq_by_cmp address_cmp v at ≡ t → item_of v ≡ item_of at
      by true e = ap item_of ((key_eq-Decides address_order v at).0 e)
      by false e =
          own v (sym (ap is_some (finite.get-insert address_total m at x v
          ∙ ap (λ t. cond t (Some x) (finite.get m v)) e)) ∙ some)

  pub removed_own : (at : Address) (m : FinMap address_cmp V) → AreOfItem (item_of at) m
      → AreOfItem (item_of at) (finite.remove m at)
  removed_own at m own v some = by (eq_by_cmp address_cmp v at) refl
    where
      by : (t : Bool) → eq_by_cmp address_cmp v at ≡ t → item_of v ≡ item_of at
      by true e = ap item_of ((key_eq-Decides address_order v at).0 e)
      by false e =
          own v (sym (ap is_some (finite.get-remove address_total m at v
          ∙ ap (λ t. cond t None (finite.get m v)) e)) ∙ some)

  -- ---- the entries of an item taken out, and others put

  module _ (at : Address) (a b : ByRoot V) (h : AreRootsInOrder a)
      (room : HasRoomAt a at.root at.number) where
    pub taken_order : IsSetAt at.root at.number None a b → AreRootsInOrder b
    taken_order set =
        set_order a b at.root at.number None set tt h (none_of_item V (item_of at)) (λ some. room)

    pub put_order : (m : FinMap address_cmp V) (new : Option (ItemEntries V))
        → IsItemWith at.number m new → AreOfItem (item_of at) m
        → IsSetAt at.root at.number new a b → AreRootsInOrder b
    put_order m new with own set =
        set_order a b at.root at.number new set with.at h
        (subst (AreOfItem (item_of at)) (sym with.entries) own) (λ some. room)

  pub taken_changed : (at : Address) (a b : ByRoot V) → IsSetAt at.root at.number None a b
      → IsChangedAt at finite.empty a b
  taken_changed at a b set = set_changed at a b None set tt

  pub put_changed : (at : Address) (a b : ByRoot V) (m : FinMap address_cmp V)
      (new : Option (ItemEntries V)) → IsItemWith at.number m new
      → IsSetAt at.root at.number new a b → IsChangedAt at m a b
  put_changed at a b m new with set =
      subst (λ m. IsChangedAt at m a b) with.entries (set_changed at a b new set with.at)

  -- ---- how many more items fit

  at_most_one : (o : Option (ItemEntries V)) → length (option_to_list o) ≤ 1
  at_most_one None = omega arith
  at_most_one (Some item) = omega arith

  module _ (a b : ByRoot V) (root : Root) (n more : ℕ) (h : AreRootsInOrder a) where
    pub taken_room : IsSetAt root n None a b → HaveRoom a more
        → HaveRoomBeside b root
        (more + length (option_to_list (numbered.find item_number n (items_of a root)))) more
    taken_room set room = record {
      here = omega (
        arith,
        ap length set.here,
        set.room,
        room root,
        length-set_at item_number n None (items_of a root) (h.each root).rise,
      );
      others = λ r ne. subst (λ (l : Listed (ItemEntries V)). length l.items + more ≤ l.room)
          (sym (set.others r ne)) (room r);
    }

    pub put_room : (new : Option (ItemEntries V)) → IsSetAt root n new a b
        → HaveRoomBeside a root (more + 1) more → HaveRoom b more
    put_room new set room r =
        same_or_not r root (length (items_of b r) + more ≤ (list_of b r).room)
        (λ same. subst (λ s. length (items_of b s) + more ≤ (list_of b s).room) (sym same)
        (omega (
          arith,
          ap length set.here,
          set.room,
          room.here,
          at_most_one new,
          length-set_at item_number n new (items_of a root) (h.each root).rise,
        )))
        (λ other. subst (λ (l : Listed (ItemEntries V)). length l.items + more ≤ l.room)
        (sym (set.others r other)) (room.others r other))

  -- an item that was there is put back
  pub put_again : (at : Address) (a b : ByRoot V) (more : ℕ)
      → HaveRoomBeside b at.root (more + length (option_to_list (own a at))) more
      → AreRootsInOrder a
      → IsSome (finite.get (map_in a) at) → HaveRoomBeside b at.root (more + 1) more
  put_again at a b more room h some = by (own a at) refl
    where
      by : (o : Option (ItemEntries V)) → own a at ≡ o → HaveRoomBeside b at.root (more + 1) more
      by None is =
          absurd (true≢false (sym some ∙ ap is_some (got a h at
          ∙ ap (λ o. finite.get (entries_in o) at) is ∙ finite.get-empty {X = V} address_cmp at)))
      by (Some item) is =
          subst (λ o. HaveRoomBeside b at.root (more + length (option_to_list o)) more) is room

  -- one more is put
  pub put_one : (at : Address) (a b c : ByRoot V) (more : ℕ) → 0 < more
      → HaveRoomBeside b at.root (more + length (option_to_list (own a at))) more
      → ((s : ℕ) → HaveRoomBeside b at.root (s + 1) s → HaveRoom c s) → HaveRoom c (more - 1)
  put_one at a b c more some room then = then (more - 1) (record {
    here = omega (arith, room.here, some);
    others = λ r ne. omega (arith, room.others r ne, some);
  })

  -- ---- nothing

  pub none_order : (roots : ByRoot V) → HasNone roots → AreRootsInOrder roots
  none_order roots none = record {
    each = λ root. record {
      rise = subst (Rise item_number) (sym (none root)) (Rise-nil item_number);
      own = subst (All (IsOwn root)) (sym (none root)) (All-nil (IsOwn root));
      fits = omega (arith, ap length (none root));
    };
  }

  pub none_map : (roots : ByRoot V) → HasNone roots → map_in roots ≡ finite.empty
  none_map roots none =
      (λ i. finite.from_sorted (of_items (none Variable i
      ++ (none Group i ++ (none Row i ++ none Objective i)))))
      ∙ empty_made
    where
      empty_made : finite.from_sorted {X = V} {R = address_cmp} [] ≡ finite.empty
      empty_made =
          finite.same_entries_map (finite.from_sorted []) finite.empty
          (finite.entries-from_sorted address_cmp [] tt ∙ sym (entries_empty address_cmp))

  pub none_room : (roots : ByRoot V) → HasNone roots → HaveRoom roots 0
  none_room roots none root = omega (arith, ap length (none root))

  pub none_kept : (roots : ByRoot V) (nothing : FinMap address_cmp V) (spare : ℕ) → HasNone roots
      → nothing ≡ finite.empty → HaveRoom roots spare → spare < 2 ^ 64
      → IsKept roots nothing 0 spare
  none_kept roots nothing spare none empty room fits = record {
    order = none_order roots none;
    empty = empty;
    count = sym (ap finite.len (none_map roots none) ∙ finite.len-empty address_cmp V);
    room = room;
    fits = omega (arith, fits);
  }

  pub emptied_room : (a b : ByRoot V) (spare : ℕ) → IsEmptied a b → HaveRoom a spare
      → HaveRoom b spare
  emptied_room a b spare emptied room root =
      omega (arith, ap length (emptied.none root), emptied.room root, room root)

  -- ---- counts

  pub one_more : (m : FinMap address_cmp V) (at : Address) (x : V) → finite.get m at ≡ None
      → finite.len (finite.insert m at x) ≡ finite.len m + 1
  one_more m at x free =
      finite.len-insert address_total m at x
      ∙ ap (λ (o : Option V). cond (is_some o) (finite.len m) (finite.len m + 1)) free

  pub as_many : (m : FinMap address_cmp V) (at : Address) (x : V) → IsSome (finite.get m at)
      → finite.len (finite.insert m at x) ≡ finite.len m
  as_many m at x there =
      finite.len-insert address_total m at x
      ∙ ap (λ t. cond t (finite.len m) (finite.len m + 1)) there

  pub one_less : (m : FinMap address_cmp V) (at : Address) → IsSome (finite.get m at)
      → finite.len (finite.remove m at) ≡ finite.len m - 1
  one_less m at there =
      finite.len-remove address_total m at
      ∙ ap (λ t. cond t (finite.len m - 1) (finite.len m)) there

  -- what is there is counted
  pub some_there : (m : FinMap address_cmp V) (at : Address) → IsSome (finite.get m at)
      → 0 < finite.len m
  some_there m at there = by (finite.len m) refl
    where
      by : (n : ℕ) → finite.len m ≡ n → 0 < n
      by zero e = absurd (true≢false (sym there
          ∙ ap (λ m. is_some (finite.get m at)) (finite.empty_of_len m e)
          ∙ ap is_some (finite.get-empty {X = V} address_cmp at)))
      by (suc n) e = omega arith
