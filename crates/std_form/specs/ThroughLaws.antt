-- A solver's model read through its map: its leaves in the order of addresses, and what stands at
-- an address.
use Rattle.std.specs.Prelude.{◌≡◌, ℕ, Bool, true, false, T, cond, List, [], ◌∷◌, ◌++◌, All, Option, Some, None, filter_map, flat_map, map, option_and_then, refl}
use Rattle.std.specs.FinMap as finite
use Rattle.std.specs.FinMap.{FinMap, is_sorted}
use Rattle.std.specs.FinMap.Entries.{below_all, find}
use Rattle.std.specs.List.{cons_option}
use Rattle.std.specs.Option.{option_map, option_map_or}
use Rattle.std.specs.Ordering.{nat_cmp}
use Rattle.std.proofs.Common.{sym, ◌∙◌, ap, subst}
use Rattle.std.proofs.lemmas.List.Elements.{All-cons, All-head, All-nil, All-tail}
use Rattle.address_map.specs.Places.{Indices}
use Rattle.aff_core.specs.Address.{Address, address_cmp, address_eq, address_eq-Decides}
use Rattle.leaf_model.specs.ReadThrough.{by_address, placed}
use Rattle.map_laws.specs.EntryLaws.{find_below}
use Rattle.map_laws.specs.TestLaws.{both, first, second}
use Rattle.std_form.specs.Indexed.{leaf_at, leaves_at}
use Rattle.std_form.specs.NameLaws.{IsEntry, entries_found}

-- ---- leaves with their addresses and indices

module _ {X : Type 0} (leaves : FinMap nat_cmp X) where
  abbrev pub addressed : Address × ℕ → Option (Address × (ℕ × X))
  addressed e = option_map (λ x. (e.0, (e.1, x))) (finite.get leaves e.1)

  abbrev pub leaves_with : List (Address × ℕ) → List (Address × (ℕ × X))
  leaves_with es = filter_map addressed es

  pub indices_of_leaves : (es : List (Address × ℕ))
      → filter_map (leaf_at leaves) es ≡ map (λ l. l.1) (leaves_with es)
  indices_of_leaves [] = refl
  indices_of_leaves (e ∷ es) = by_leaf (finite.get leaves e.1) (indices_of_leaves es)
    where
      by_leaf : (o : Option X) → filter_map (leaf_at leaves) es ≡ map (λ l. l.1) (leaves_with es)
          → cons_option (option_map (λ x. (e.1, x)) o) (filter_map (leaf_at leaves) es)
          ≡ map (λ l. l.1) (cons_option (option_map (λ x. (e.0, (e.1, x))) o) (leaves_with es))
      by_leaf None rest = rest
      by_leaf (Some x) rest = ap (λ ls. (e.1, x) ∷ ls) rest

  -- what is so of each entry with its leaf
  pub each_leaf : (P : Address × (ℕ × X) → Type 0) (Q : Address × ℕ → Type 0)
      → ((e : Address × ℕ) (x : X) → Q e → finite.get leaves e.1 ≡ Some x → P (e.0, (e.1, x)))
      → (es : List (Address × ℕ)) → All Q es → All P (leaves_with es)
  each_leaf P Q h [] k = All-nil P
  each_leaf P Q h (e ∷ es) k =
      by_leaf (finite.get leaves e.1) refl (each_leaf P Q h es (All-tail Q e es k))
    where
      by_leaf : (o : Option X) → finite.get leaves e.1 ≡ o → All P (leaves_with es)
          → All P (cons_option (option_map (λ x. (e.0, (e.1, x))) o) (leaves_with es))
      by_leaf None is rest = rest
      by_leaf (Some x) is rest =
          All-cons P (e.0, (e.1, x)) (leaves_with es) (h e x (All-head Q e es k) is) rest

  module _ {Y : Type 0} (read : X → Y) where
    addresses_of_leaves : (es : List (Address × ℕ))
        → flat_map (placed read leaves) es ≡ map (λ l. (l.0, read l.1.1)) (leaves_with es)
    addresses_of_leaves [] = refl
    addresses_of_leaves (e ∷ es) = by_leaf (finite.get leaves e.1) (addresses_of_leaves es)
      where
        by_leaf : (o : Option X)
            → flat_map (placed read leaves) es ≡ map (λ l. (l.0, read l.1.1)) (leaves_with es)
            → option_map_or (λ x. (e.0, read x) ∷ []) o [] ++ flat_map (placed read leaves) es
            ≡ map (λ l. (l.0, read l.1.1)) (cons_option (option_map (λ x. (e.0, (e.1, x))) o)
            (leaves_with es))
        by_leaf None rest = rest
        by_leaf (Some x) rest = ap (λ ls. (e.0, read x) ∷ ls) rest

    below_placed : (a : Address) (es : List (Address × ℕ)) → T (below_all address_cmp a es)
        → T (below_all address_cmp a (flat_map (placed read leaves) es))
    below_placed a [] h = tt
    below_placed a (e ∷ es) h = by_leaf (finite.get leaves e.1) (below_placed a es (second _ _ h))
      where
        by_leaf : (o : Option X) → T (below_all address_cmp a (flat_map (placed read leaves) es))
            → T (below_all address_cmp a (option_map_or (λ x. (e.0, read x) ∷ []) o []
            ++ flat_map (placed read leaves) es))
        by_leaf None rest = rest
        by_leaf (Some x) rest = both _ _ (first _ _ h) rest

    sorted_placed : (es : List (Address × ℕ)) → T (is_sorted address_cmp es)
        → T (is_sorted address_cmp (flat_map (placed read leaves) es))
    sorted_placed [] h = tt
    sorted_placed (e ∷ es) h = by_leaf (finite.get leaves e.1) (sorted_placed es (second _ _ h))
      where
        by_leaf : (o : Option X) → T (is_sorted address_cmp (flat_map (placed read leaves) es))
            → T (is_sorted address_cmp (option_map_or (λ x. (e.0, read x) ∷ []) o []
            ++ flat_map (placed read leaves) es))
        by_leaf None rest = rest
        by_leaf (Some x) rest = both _ _ (below_placed e.0 es (first _ _ h)) rest

    find_placed : (a : Address) (es : List (Address × ℕ)) → T (is_sorted address_cmp es)
        → find address_cmp a (flat_map (placed read leaves) es)
        ≡ option_and_then (λ i. option_map read (finite.get leaves i)) (find address_cmp a es)
    find_placed a [] h = refl
    find_placed a (e ∷ es) h = by_test (address_eq a e.0) refl (find_placed a es (second _ _ h))
      where
        none_later : address_eq a e.0 ≡ true
            → find address_cmp a (flat_map (placed read leaves) es) ≡ None
        none_later t = find_below address_cmp a (flat_map (placed read leaves) es)
            (subst (λ b. T (below_all address_cmp b (flat_map (placed read leaves) es)))
            (sym ((address_eq-Decides a e.0).0 t)) (below_placed e.0 es (first _ _ h)))

        by_leaf : address_eq a e.0 ≡ true → (o : Option X)
            → find address_cmp a (option_map_or (λ x. (e.0, read x) ∷ []) o []
            ++ flat_map (placed read leaves) es) ≡ option_map read o
        by_leaf t None = none_later t
        by_leaf t (Some x) = ap (λ b. cond b (Some (read x))
            (find address_cmp a (flat_map (placed read leaves) es))) t

        passed_by : address_eq a e.0 ≡ false → (o : Option X)
            → find address_cmp a (option_map_or (λ x. (e.0, read x) ∷ []) o []
            ++ flat_map (placed read leaves) es)
            ≡ find address_cmp a (flat_map (placed read leaves) es)
        passed_by t None = refl
        passed_by t (Some x) = ap (λ b. cond b (Some (read x))
            (find address_cmp a (flat_map (placed read leaves) es))) t

        by_test : (b : Bool) → address_eq a e.0 ≡ b
            → find address_cmp a (flat_map (placed read leaves) es)
            ≡ option_and_then (λ i. option_map read (finite.get leaves i)) (find address_cmp a es)
            → find address_cmp a (placed read leaves e ++ flat_map (placed read leaves) es)
            ≡ option_and_then (λ i. option_map read (finite.get leaves i))
            (cond b (Some e.1) (find address_cmp a es))
        by_test true t rest = by_leaf t (finite.get leaves e.1)
        by_test false t rest = passed_by t (finite.get leaves e.1) ∙ rest

    module _ (indices : Indices) where
      -- the leaves in the order of their addresses
      pub entries_through : finite.entries (by_address read indices leaves)
          ≡ map (λ l. (l.0, read l.1.1)) (leaves_with (finite.entries indices))
      entries_through =
          finite.entries-from_sorted address_cmp (flat_map (placed read leaves)
          (finite.entries indices)) (sorted_placed (finite.entries indices)
          (finite.entries_sorted indices))
          ∙ addresses_of_leaves (finite.entries indices)

      -- what stands at an address
      pub get_through : (a : Address)
          → finite.get (by_address read indices leaves) a
          ≡ option_and_then (λ i. option_map read (finite.get leaves i)) (finite.get indices a)
      get_through a =
          finite.get-from_sorted address_cmp (flat_map (placed read leaves)
          (finite.entries indices)) a (sorted_placed (finite.entries indices)
          (finite.entries_sorted indices))
          ∙ find_placed a (finite.entries indices) (finite.entries_sorted indices)
          ∙ ap (option_and_then (λ i. option_map read (finite.get leaves i)))
          (sym (finite.get-entries indices a))

  pub leaves_at_is : (indices : Indices)
      → leaves_at indices leaves ≡ map (λ l. l.1) (leaves_with (finite.entries indices))
  leaves_at_is indices = indices_of_leaves (finite.entries indices)

  -- each leaf has its address's index
  abbrev pub HasItsIndex : Indices → Address × (ℕ × X) → Type 0
  HasItsIndex indices l = (finite.get indices l.0 ≡ Some l.1.0)
      × (finite.get leaves l.1.0 ≡ Some l.1.1)

  pub each_index : (indices : Indices)
      → All (HasItsIndex indices) (leaves_with (finite.entries indices))
  each_index indices = each_leaf (HasItsIndex indices) (IsEntry indices) (λ e x h k. (h, k))
      (finite.entries indices) (entries_found indices)
