-- A list around one of its items: what is before it, the item, and what is after it.
use Rattle.std.specs.Prelude.{◌≡◌, ℕ, suc, zero, ◌+◌, ◌-◌, ◌<◌, ◌≤◌, Bool, true, false, cond, T, List, [], ◌∷◌, ◌++◌, Some, Result, Ok, Err, length, slice_get, slice_index_or, nat_lt, refl}
use Rattle.std.proofs.Common.{arith, sym, ap, subst, ◌∙◌, length-append}
use Rattle.std.proofs.lemmas.List.{get_or_append_left, get_or-append-add}
use Rattle.std.proofs.lemmas.List.Edits.{insert-append_left, insert-append_right, remove-append_left, remove-append_right}
use Rattle.std.specs.List.{insert, remove}
use Rattle.std.specs.List.Sorted.{IsBinarySearchResult, IsNonDecreasingBy, IsPartitionPoint, IsSearchInRange}
use Rattle.std.specs.Ordering.{is_eq, ordering_index, ordering_reverse}
use Rattle.std.specs.declared.cmp.Ordering.{Ordering}
use Rattle.std.specs.declared.cmp.Ordering.TheVariants.{Less, Equal, Greater}
use Rattle.std.specs.Cmp.{IsTotalOrder, alike_right}
use Rattle.std.specs.FinMap.{find, is_sorted}
use Rattle.std.specs.FinMap.Entries.{below_all}
use Rattle.map_laws.specs.EntryLaws.{below_less, find_below}
use Rattle.map_laws.specs.TestLaws.{both, first, second, is_less}
use borrow.Author.Tests.{ltb-true, ltb-false}

got_in_front : {X : Type 0} (l : List X) (x : X) (r : List X) (n : ℕ) → n < length l
    → slice_get l n ≡ slice_get (l ++ x ∷ r) n
got_in_front [] x r n lt = absurd (omega (arith, lt))
got_in_front (y ∷ l) x r zero lt = refl
got_in_front (y ∷ l) x r (suc n) lt = got_in_front l x r n (omega (arith, lt))

got_at_seam : {X : Type 0} (l : List X) (x : X) (r : List X)
    → Some x ≡ slice_get (l ++ x ∷ r) (length l)
got_at_seam [] x r = refl
got_at_seam (y ∷ l) x r = got_at_seam l x r

got_behind : {X : Type 0} (l : List X) (x : X) (r : List X) (m n : ℕ) → m ≡ suc (length l + n)
    → slice_get r n ≡ slice_get (l ++ x ∷ r) m
got_behind [] x r zero n e = absurd (omega (arith, e))
got_behind [] x r (suc m) n e = ap (λ k. slice_get r k) {x = n} {y = m} (omega (arith, e))
got_behind (y ∷ l) x r zero n e = absurd (omega (arith, e))
got_behind (y ∷ l) x r (suc m) n e = got_behind l x r m n (omega (arith, e))

module _ {X : Type 0} {all : List X} (l : List X) (x : X) (r : List X) (is : all ≡ l ++ x ∷ r) where
  pub got_before : (n : ℕ) → n < length l → slice_get l n ≡ slice_get all n
  got_before n lt = got_in_front l x r n lt ∙ ap (λ xs. slice_get xs n) (sym is)

  pub got_here : (n : ℕ) → n ≡ length l → Some x ≡ slice_get all n
  got_here n e = got_at_seam l x r ∙ (λ i. slice_get (sym is i) (sym e i))

  pub got_after : (n : ℕ) → length l < n → slice_get r (n - length l - 1) ≡ slice_get all n
  got_after n lt =
      got_behind l x r n (n - length l - 1) (omega (arith, lt)) ∙ ap (λ xs. slice_get xs n) (sym is)

  pub inserted_before : (n : ℕ) (y : X) → n ≤ length l → insert l n y ++ x ∷ r ≡ insert all n y
  inserted_before n y le =
      sym (insert-append_left l (x ∷ r) n y le) ∙ ap (λ xs. insert xs n y) (sym is)

  pub inserted_after : (n : ℕ) (y : X) → length l < n
      → l ++ x ∷ insert r (n - length l - 1) y ≡ insert all n y
  inserted_after n y lt =
      ap (λ k. l ++ insert (x ∷ r) k y) {x = suc (n - length l - 1)} {y = n - length l}
      (omega (arith, lt))
      ∙ sym (insert-append_right l (x ∷ r) (length l) n y refl (omega (arith, lt)))
      ∙ ap (λ xs. insert xs n y) (sym is)

  pub removed_before : (n : ℕ) → n < length l → remove l n ++ x ∷ r ≡ remove all n
  removed_before n lt =
      sym (remove-append_left l (x ∷ r) n lt) ∙ ap (λ xs. remove xs n) (sym is)

  pub removed_here : (n : ℕ) → n ≡ length l → l ++ r ≡ remove all n
  removed_here n e =
      ap (λ k. l ++ remove (x ∷ r) k) {x = zero} {y = n - length l} (omega (arith, e))
      ∙ sym (remove-append_right l (x ∷ r) (length l) n refl (omega (arith, e)))
      ∙ ap (λ xs. remove xs n) (sym is)

  pub removed_after : (n : ℕ) → length l < n → l ++ x ∷ remove r (n - length l - 1) ≡ remove all n
  removed_after n lt =
      ap (λ k. l ++ remove (x ∷ r) k) {x = suc (n - length l - 1)} {y = n - length l}
      (omega (arith, lt))
      ∙ sym (remove-append_right l (x ∷ r) (length l) n refl (omega (arith, lt)))
      ∙ ap (λ xs. remove xs n) (sym is)

-- ---- what a search in a part says of the whole

least : (o : Ordering) → ordering_index o ≤ 0 → o ≡ Less
least Less h = refl
least Equal h = absurd (omega (arith, h))
least Greater h = absurd (omega (arith, h))

most : (o : Ordering) → 2 ≤ ordering_index o → o ≡ Greater
most Less h = absurd (omega (arith, h))
most Equal h = absurd (omega (arith, h))
most Greater h = refl

module _ {X : Type 0} (ord : X → Ordering) {all : List X} (l : List X) (x : X) (r : List X)
    (is : all ≡ l ++ x ∷ r) where
  rank : X → ℕ
  rank y = ordering_index (ord y)

  front : (i : ℕ) (d : X) → i < length l → slice_index_or all i d ≡ slice_index_or l i d
  front i d lt = ap (λ xs. slice_index_or xs i d) is ∙ get_or_append_left l (x ∷ r) d i lt

  seam : (d : X) → slice_index_or all (length l) d ≡ x
  seam d = ap (λ xs. slice_index_or xs (length l) d) is
      ∙ ap (λ k. slice_index_or (l ++ x ∷ r) k d) {x = length l} {y = length l + 0} (omega arith)
      ∙ get_or-append-add l (x ∷ r) 0 d

  back : (n : ℕ) (d : X) → slice_index_or all (length l + 1 + n) d ≡ slice_index_or r n d
  back n d = ap (λ xs. slice_index_or xs (length l + 1 + n) d) is
      ∙ ap (λ k. slice_index_or (l ++ x ∷ r) k d) {x = length l + 1 + n} {y = length l + suc n}
      (omega arith)
      ∙ get_or-append-add l (x ∷ r) (suc n) d

  count : length all ≡ length l + suc (length r)
  count = ap length is ∙ length-append l (x ∷ r)

  pub found_here : ord x ≡ Equal → (d : X) → ord (slice_index_or all (length l) d) ≡ Equal
  found_here e d = ap ord (seam d) ∙ e

  rises_before : IsNonDecreasingBy (λ y. ordering_index (ord y)) all
      → IsNonDecreasingBy (λ y. ordering_index (ord y)) l
  rises_before h i j d le lt =
      subst (λ y. ordering_index (ord y) ≤ ordering_index (ord (slice_index_or l j d)))
      (front i d (omega (arith, le, lt)))
      (subst (λ y. ordering_index (ord (slice_index_or all i d)) ≤ ordering_index (ord y))
      (front j d lt) (h i j d le (omega (arith, lt, count))))

  rises_after : IsNonDecreasingBy (λ y. ordering_index (ord y)) all
      → IsNonDecreasingBy (λ y. ordering_index (ord y)) r
  rises_after h i j d le lt =
      subst (λ y. ordering_index (ord y) ≤ ordering_index (ord (slice_index_or r j d)))
      (back i d)
      (subst (λ y. ordering_index (ord (slice_index_or all (length l + 1 + i) d))
      ≤ ordering_index (ord y)) (back j d)
      (h (length l + 1 + i) (length l + 1 + j) d (omega (arith, le)) (omega (arith, lt, count))))

  pub searched_before : ord x ≡ Greater → (result : Result ℕ ℕ)
      → IsSearchInRange result (length l) → IsBinarySearchResult ord l result
      → IsBinarySearchResult ord all result
  searched_before e (Ok n) lt equal = λ d. ap ord (front n d lt) ∙ equal d
  searched_before e (Err n) le parted = λ h.
      let parts = parted (rises_before h) in (
        λ j d from to. ap ord (front j d (omega (arith, le, to))) ∙ parts.0 j d from to,
        λ j d from to. above h j d to (nat_lt j (length l)) refl
            (λ lt. parts.1 j d from lt),
      )
    where
      above : IsNonDecreasingBy (λ y. ordering_index (ord y)) all → (j : ℕ) (d : X)
          → j < length all → (b : Bool) → nat_lt j (length l) ≡ b
          → (j < length l → ord (slice_index_or l j d) ≡ Greater)
          → ord (slice_index_or all j d) ≡ Greater
      above h j d to true t there =
          let lt : j < length l = ltb-true j (length l) t in ap ord (front j d lt) ∙ there lt
      above h j d to false t there =
          let from : length l ≤ j = ltb-false j (length l) t in
          let rank_here : ordering_index (ord (slice_index_or all (length l) d)) ≡ 2 =
          ap (λ y. ordering_index (ord y)) (seam d) ∙ ap ordering_index e in
          most (ord (slice_index_or all j d)) (omega (arith, rank_here, h (length l) j d from to))

  pub found_after : (n : ℕ) → ((d : X) → ord (slice_index_or r n d) ≡ Equal) → (d : X)
      → ord (slice_index_or all (length l + 1 + n) d) ≡ Equal
  found_after n equal d = ap ord (back n d) ∙ equal d

  pub parted_after : ord x ≡ Less → (n : ℕ)
      → (IsNonDecreasingBy (λ y. ordering_index (ord y)) r
      → IsPartitionPoint (λ y. ord y ≡ Less) (λ y. ord y ≡ Greater) r n)
      → IsNonDecreasingBy (λ y. ordering_index (ord y)) all
      → IsPartitionPoint (λ y. ord y ≡ Less) (λ y. ord y ≡ Greater) all (length l + 1 + n)
  parted_after e n parted h =
      let parts = parted (rises_after h) in (
        λ j d from to. below j d to (nat_lt (length l) j) refl (parts.0 (j - length l - 1) d),
        λ j d from to. ap (λ k. ord (slice_index_or all k d)) (sym (within j (omega (arith, from))))
            ∙ ap ord (back (j - length l - 1) d)
            ∙ parts.1 (j - length l - 1) d (omega (arith, from)) (omega (arith, from, to, count)),
      )
    where
      within : (j : ℕ) → length l < j → length l + 1 + (j - length l - 1) ≡ j
      within j lt = omega (arith, lt)

      below : (j : ℕ) (d : X) → j < length l + 1 + n → (b : Bool) → nat_lt (length l) j ≡ b
          → (0 ≤ j - length l - 1 → j - length l - 1 < n
          → ord (slice_index_or r (j - length l - 1) d) ≡ Less)
          → ord (slice_index_or all j d) ≡ Less
      below j d to true t there =
          let lt : length l < j = ltb-true (length l) j t in
          ap (λ k. ord (slice_index_or all k d)) (sym (within j lt))
          ∙ ap ord (back (j - length l - 1) d) ∙ there (omega arith) (omega (arith, lt, to))
      below j d to false t there =
          let le : j ≤ length l = ltb-false (length l) j t in
          let rank_here : ordering_index (ord (slice_index_or all (length l) d)) ≡ 0 =
          ap (λ y. ordering_index (ord y)) (seam d) ∙ ap ordering_index e in
          least (ord (slice_index_or all j d))
          (omega (arith, rank_here, h j (length l) d le (omega (arith, count))))

-- ---- what is found by its key, where keys rise

module _ {K : Type 0} {R : K → K → Ordering} (total : IsTotalOrder R) where
  apart_from : (q k : K) → R k q ≡ Less → is_eq (R q k) ≡ false
  apart_from q k e = ap is_eq (total.antisymm q k ∙ ap ordering_reverse e)

module _ {K X : Type 0} {R : K → K → Ordering} (total : IsTotalOrder R) where
  -- the entries before one are below it, and so is it below those after it
  below_front : (k : K) (l m : List (K × X)) → T (below_all R k (l ++ m)) → T (below_all R k l)
  below_front k [] m h = tt
  below_front k (e ∷ l) m h = both _ _ (first _ _ h) (below_front k l m (second _ _ h))

  below_seam : (k : K) (l : List (K × X)) (e : K × X) (r : List (K × X))
      → T (below_all R k (l ++ e ∷ r)) → R k e.0 ≡ Less
  below_seam k [] e r h = is_less _ (first _ _ h)
  below_seam k (y ∷ l) e r h = below_seam k l e r (second _ _ h)

  pub rise_before : (l : List (K × X)) (e : K × X) (r : List (K × X))
      → T (is_sorted R (l ++ e ∷ r)) → T (is_sorted R l)
  rise_before [] e r h = tt
  rise_before (y ∷ l) e r h =
      both _ _ (below_front y.0 l (e ∷ r) (first _ _ h)) (rise_before l e r (second _ _ h))

  pub rise_after : (l : List (K × X)) (e : K × X) (r : List (K × X))
      → T (is_sorted R (l ++ e ∷ r)) → T (is_sorted R r)
  rise_after [] e r h = second _ _ h
  rise_after (y ∷ l) e r h = rise_after l e r (second _ _ h)

  pub find_before : (q : K) (l : List (K × X)) (e : K × X) (r : List (K × X))
      → T (is_sorted R (l ++ e ∷ r)) → R q e.0 ≡ Less
      → find R q l ≡ find R q (l ++ e ∷ r)
  find_before q [] e r h less =
      sym (ap (λ o. cond (is_eq o) (Some e.1) (find R q r)) less
      ∙ find_below R q r (below_less total q e.0 r less (first _ _ h)))
  find_before q (y ∷ l) e r h less =
      ap (cond (is_eq (R q y.0)) (Some y.1)) (find_before q l e r (second _ _ h) less)

  pub find_here : (q : K) (l : List (K × X)) (e : K × X) (r : List (K × X))
      → T (is_sorted R (l ++ e ∷ r)) → R q e.0 ≡ Equal
      → Some e.1 ≡ find R q (l ++ e ∷ r)
  find_here q [] e r h tied = sym (ap (λ o. cond (is_eq o) (Some e.1) (find R q r)) tied)
  find_here q (y ∷ l) e r h tied =
      find_here q l e r (second _ _ h) tied
      ∙ sym (ap (λ b. cond b (Some y.1) (find R q (l ++ e ∷ r)))
      (apart_from total q y.0 (alike_right total q e.0 y.0 tied
      ∙ below_seam y.0 l e r (first _ _ h))))

  pub find_after : (q : K) (l : List (K × X)) (e : K × X) (r : List (K × X))
      → T (is_sorted R (l ++ e ∷ r)) → R q e.0 ≡ Greater
      → find R q r ≡ find R q (l ++ e ∷ r)
  find_after q [] e r h more =
      sym (ap (λ o. cond (is_eq o) (Some e.1) (find R q r)) more)
  find_after q (y ∷ l) e r h more =
      find_after q l e r (second _ _ h) more
      ∙ sym (ap (λ b. cond b (Some y.1) (find R q (l ++ e ∷ r)))
      (apart_from total q y.0 (total.trans y.0 e.0 q (below_seam y.0 l e r (first _ _ h))
      (total.antisymm e.0 q ∙ ap ordering_reverse more))))
