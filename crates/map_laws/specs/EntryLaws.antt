-- Lists of entries whose keys strictly rise: what a search among them finds, and what keeps them
-- so.
use Rattle.std.specs.Prelude.{◌≡◌, ℕ, zero, suc, ◌<◌, Bool, true, false, ◌&&◌, cond, T, List, [], ◌∷◌, drop, length, slice_index_or, Some, None, Result, Ok, Err, MatchResult, filter, map, nat_lt, ◌+◌, refl}
use Rattle.std.specs.Option.{option_map}
use Rattle.std.proofs.Common.{arith, sym, ap, subst, ◌∙◌}
use Rattle.std.specs.Ordering.{is_eq, is_lt, ordering_reverse}
use Rattle.std.specs.declared.cmp.Ordering.{Ordering}
use Rattle.std.specs.declared.cmp.Ordering.TheVariants.{Less, Equal, Greater}
use Rattle.std.specs.Cmp.{IsTotalOrder, tied_back, alike_right}
use Rattle.std.specs.FinMap.{find, is_sorted}
use Rattle.std.specs.FinMap.Entries.{below_all}
use Rattle.std.specs.List.Sorted.{IsBinarySearchResult, IsSearchInRange, IsSortedBy}
use Rattle.std.proofs.lemmas.List.Sorted.{searchable_from_sorted}
use borrow.Author.Tests.{ltb-true, ltb-false}
use Rattle.map_laws.specs.TestLaws.{both, first, second, is_less}

module _ {K : Type 0} {R : K → K → Ordering} (o : IsTotalOrder R) where
  turned_less : (x y : K) → R x y ≡ Less → is_lt (R y x) ≡ false
  turned_less x y e = ap is_lt (o.antisymm y x ∙ ap ordering_reverse e)

  apart_less : (x q : K) → R x q ≡ Less → is_eq (R q x) ≡ false
  apart_less x q e = ap is_eq (o.antisymm q x ∙ ap ordering_reverse e)

  apart_greater : (x q : K) → R x q ≡ Greater → is_eq (R q x) ≡ false
  apart_greater x q e = ap is_eq (o.antisymm q x ∙ ap ordering_reverse e)

module _ {K X : Type 0} {R : K → K → Ordering} (o : IsTotalOrder R) where
  below_at : (k : K) (es : List (K × X)) (i : ℕ) (d : K × X) → T (below_all R k es) → i < length es
      → R k (slice_index_or es i d).0 ≡ Less
  below_at k [] i d h lt = absurd (omega arith)
  below_at k (e ∷ es) zero d h lt = is_less _ (first _ _ h)
  below_at k (e ∷ es) (suc i) d h lt = below_at k es i d (second _ _ h) (omega arith)

  -- the entry at a place whose key ties with q is what is found at q
  pub find_at : (q : K) (es : List (K × X)) (i : ℕ) (d : K × X) → T (is_sorted R es) → i < length es
      → R (slice_index_or es i d).0 q ≡ Equal → find R q es ≡ Some (slice_index_or es i d).1
  find_at q [] i d h lt tied = absurd (omega arith)
  find_at q (e ∷ es) zero d h lt tied =
      ap (λ r. cond (is_eq r) (Some e.1) (find R q es)) (tied_back o e.0 q tied)
  find_at q (e ∷ es) (suc i) d h lt tied =
      let above : R q e.0 ≡ Greater = o.antisymm q e.0
      ∙ ap ordering_reverse (sym (alike_right o (slice_index_or es i d).0 q e.0 tied)
      ∙ below_at e.0 es i d (first _ _ h) (omega arith)) in
      ap (λ r. cond (is_eq r) (Some e.1) (find R q es)) above
      ∙ find_at q es i d (second _ _ h) (omega arith) tied

  -- a key that ties with none is not found
  pub find_none : (q : K) (es : List (K × X))
      → ((i : ℕ) (d : K × X) → i < length es → is_eq (R q (slice_index_or es i d).0) ≡ false)
      → find R q es ≡ None
  find_none q [] h = refl
  find_none q (e ∷ es) h =
      ap (λ b. cond b (Some e.1) (find R q es)) (h 0 e (omega arith))
      ∙ find_none q es (λ i d lt. h (suc i) d (omega arith))

  -- of two entries the earlier has the lesser key
  pub key_less : (es : List (K × X)) (i j : ℕ) (d : K × X) → T (is_sorted R es) → i < j
      → j < length es → R (slice_index_or es i d).0 (slice_index_or es j d).0 ≡ Less
  key_less [] i j d h lt end = absurd (omega arith)
  key_less (e ∷ es) i zero d h lt end = absurd (omega arith)
  key_less (e ∷ es) zero (suc j) d h lt end = below_at e.0 es j d (first _ _ h) (omega arith)
  key_less (e ∷ es) (suc i) (suc j) d h lt end =
      key_less es i j d (second _ _ h) (omega arith) (omega arith)

  pub ascending : (es : List (K × X)) → T (is_sorted R es)
      → IsSortedBy (λ a b. is_lt (R a.0 b.0)) es
  ascending es h k d low lt = turned_less o _ _ (key_less es k (k + 1) d h (omega arith) lt)

  -- what a binary search by the keys answers is what is found
  pub searched : (q : K) (es : List (K × X)) (r : Result ℕ ℕ) → T (is_sorted R es)
      → IsSearchInRange r (length es) → IsBinarySearchResult (λ e. R e.0 q) es r
      → MatchResult r (λ i. (d : K × X) → find R q es ≡ Some (slice_index_or es i d).1)
      (λ _. find R q es ≡ None)
  searched q es (Ok i) h range equal = λ d. find_at q es i d h range (equal d)
  searched q es (Err i) h range parted =
      let parts = parted (searchable_from_sorted o (λ e. e.0) es q (ascending es h)) in
      find_none q es (λ j d lt. elim (nat_lt j i) as
      (λ b. nat_lt j i ≡ b → is_eq (R q (slice_index_or es j d).0) ≡ false) [
        | true ↦ λ t. apart_less o _ q (parts.0 j d (omega arith) (ltb-true j i t))
        | false ↦ λ t. apart_greater o _ q (parts.1 j d (ltb-false j i t) lt)
      ] refl)

  pub below_less : (x y : K) (es : List (K × X)) → R x y ≡ Less → T (below_all R y es)
      → T (below_all R x es)
  below_less x y [] p h = tt
  below_less x y (e ∷ es) p h = both _ _ (subst (λ r. T (is_lt r))
      (sym (o.trans x y e.0 p (is_less _ (first _ _ h)))) tt) (below_less x y es p (second _ _ h))

  -- keys rise where each is below the next
  pub is_sorted_adjacent : (es : List (K × X))
      → ((k : ℕ) (d : K × X) → k + 1 < length es
      → R (slice_index_or es k d).0 (slice_index_or es (k + 1) d).0 ≡ Less) → T (is_sorted R es)
  is_sorted_adjacent [] h = tt
  is_sorted_adjacent (e ∷ []) h = tt
  is_sorted_adjacent (e ∷ f ∷ es) h =
      let rest : T (is_sorted R (f ∷ es)) = is_sorted_adjacent (f ∷ es)
      (λ k d lt. subst (λ j. R (slice_index_or (f ∷ es) k d).0
      (slice_index_or (e ∷ f ∷ es) j d).0 ≡ Less) {x = suc k + 1} {y = suc (k + 1)}
      (omega arith) (h (suc k) d (omega arith))) in
      let next : R e.0 f.0 ≡ Less = h 0 e (omega arith) in
      both _ _ (both _ _ (subst (λ r. T (is_lt r)) (sym next) tt)
      (below_less e.0 f.0 es next (first _ _ rest))) rest

-- entries that are left out leave the others in order
module _ {K X : Type 0} (R : K → K → Ordering) where
  pub below_all-filter : (p : K × X → Bool) (k : K) (es : List (K × X)) → T (below_all R k es)
      → T (below_all R k (filter p es))
  below_all-filter p k [] h = tt
  below_all-filter p k (e ∷ es) h =
      let rest = below_all-filter p k es (second _ _ h) in
      elim (p e) as (λ b. T (below_all R k (cond b (e ∷ filter p es) (filter p es))))
      [ true ↦ both _ _ (first _ _ h) rest | false ↦ rest ]

  pub is_sorted-filter : (p : K × X → Bool) (es : List (K × X)) → T (is_sorted R es)
      → T (is_sorted R (filter p es))
  is_sorted-filter p [] h = tt
  is_sorted-filter p (e ∷ es) h =
      let rest = is_sorted-filter p es (second _ _ h) in
      elim (p e) as (λ b. T (is_sorted R (cond b (e ∷ filter p es) (filter p es))))
      [ true ↦ both _ _ (below_all-filter p e.0 es (first _ _ h)) rest | false ↦ rest ]

  -- a key below all of them is not found
  pub find_below : (q : K) (es : List (K × X)) → T (below_all R q es) → find R q es ≡ None
  find_below q [] h = refl
  find_below q (e ∷ es) h = ap (λ r. cond (is_eq r) (Some e.1) (find R q es))
      (is_less _ (first _ _ h)) ∙ find_below q es (second _ _ h)

  pub is_sorted-drop : (n : ℕ) (es : List (K × X)) → T (is_sorted R es)
      → T (is_sorted R (drop n es))
  is_sorted-drop zero es h = h
  is_sorted-drop (suc n) [] h = tt
  is_sorted-drop (suc n) (e ∷ es) h = is_sorted-drop n es (second _ _ h)

  -- new values leave the order as it is
  pub below_all-map : {Y : Type 0} (f : X → Y) (k : K) (es : List (K × X))
      → below_all R k (map (λ e. (e.0, f e.1)) es) ≡ below_all R k es
  below_all-map f k [] = refl
  below_all-map f k (e ∷ es) = ap (λ b. is_lt (R k e.0) && b) (below_all-map f k es)

  pub is_sorted-map : {Y : Type 0} (f : X → Y) (es : List (K × X))
      → is_sorted R (map (λ e. (e.0, f e.1)) es) ≡ is_sorted R es
  is_sorted-map f [] = refl
  is_sorted-map f (e ∷ es) = λ i. below_all-map f e.0 es i && is_sorted-map f es i

  pub find-map : {Y : Type 0} (f : X → Y) (q : K) (es : List (K × X))
      → find R q (map (λ e. (e.0, f e.1)) es) ≡ option_map f (find R q es)
  find-map f q [] = refl
  find-map f q (e ∷ es) =
      elim (is_eq (R q e.0)) as (λ b. cond b (Some (f e.1)) (find R q (map (λ e. (e.0, f e.1)) es))
      ≡ option_map f (cond b (Some e.1) (find R q es)))
      [ true ↦ refl | false ↦ find-map f q es ]
