-- What a binary search by numbers answers, and what an exchange leaves at the place that it finds.
use Rattle.std.specs.Prelude.{◌≡◌, ℕ, ◌+◌, ◌-◌, ◌<◌, ◌≤◌, List, [], ◌∷◌, Option, Some, Result, Ok, Err, All, insert, length, take, drop, slice_get, slice_index_or, nat_lt, false, refl}
use Rattle.std.specs.Option.{is_some}
use Rattle.std.proofs.Math.ListN.{set}
use Rattle.std.specs.Cmp.{nat_cmp_total}
use Rattle.std.specs.Ordering.{nat_cmp, is_lt}
use Rattle.std.specs.List.Sorted.{IsBinarySearchResult, IsSearchInRange, IsSortedBy}
use Rattle.std.proofs.Common.{arith, sym, ap, subst, inl, inr, add-one, ◌∙◌}
use Rattle.std.proofs.lemmas.Bool.{cases_eq, cases_lt}
use Rattle.std.proofs.lemmas.Bool.Decides.{nat_tests}
use Rattle.std.proofs.lemmas.List.{append-nil, get_or_default, take-append-drop, length-take, length-drop, get_or-take, get_or-drop, set_split}
use Rattle.std.proofs.lemmas.List.Elements.{filter-append}
use Rattle.std.proofs.lemmas.List.Sorted.{searchable_from_sorted}
use Rattle.std.proofs.lemmas.Option.{slice_get-get_or, slice_get_read, get_or_from_slice_get}
use Rattle.map_laws.specs.TestLaws.{equal_to, greater_than, less_than}
use Rattle.numbered_list.specs.Numbered.{Rise, find, below, above, set_at}
use Rattle.numbered_list.specs.Places.{IsFoundAt, IsMissingAt, IsNumberPlace}
use Rattle.numbered_list.specs.Laws.{find-at, find-none}
use Rattle.numbered_list.specs.SetLaws.{below-all, below-none, above-all, above-none}

no_less : (a b : ℕ) → a < b → is_lt (nat_cmp b a) ≡ false
no_less a b lt = grind (arith, nat_tests)

module _ {X : Type 0} (number_of : X → ℕ) where
  ascending : (xs : List X) → Rise number_of xs
      → IsSortedBy (λ a b. is_lt (nat_cmp (number_of a) (number_of b))) xs
  ascending xs rise = λ k d low end. no_less _ _ (rise.rising k (k + 1) d (omega arith) end)

  All-take : (P : X → Type 0) (i : ℕ) (xs : List X) → i ≤ length xs
      → ((k : ℕ) (d : X) → k < i → P (slice_index_or xs k d)) → All P (take i xs)
  All-take P i xs le h = λ k d end.
      let lt : k < i = omega (arith, length-take i xs) in
      subst P (sym (get_or-take i xs k d lt)) (h k d lt)

  All-drop : (P : X → Type 0) (i : ℕ) (xs : List X) → i ≤ length xs
      → ((k : ℕ) (d : X) → i ≤ k → k < length xs → P (slice_index_or xs k d)) → All P (drop i xs)
  All-drop P i xs le h = λ k d end.
      subst P (sym (get_or-drop i xs k d)) (h (i + k) d (omega arith)
      (omega (arith, length-drop i xs)))

  below_place : (n : ℕ) (xs : List X) (i : ℕ) → All (λ x. number_of x < n) (take i xs)
      → All (λ x. n ≤ number_of x) (drop i xs) → take i xs ≡ below number_of n xs
  below_place n xs i low high =
      sym (ap (below number_of n) (sym (take-append-drop i xs))
      ∙ (filter-append (λ x. nat_lt (number_of x) n) (take i xs) (drop i xs)
      ∙ rw (below-all number_of n (take i xs) low, below-none number_of n (drop i xs) high)
      (append-nil (take i xs))))

  above_place : (n : ℕ) (xs : List X) (i : ℕ) → All (λ x. number_of x ≤ n) (take i xs)
      → All (λ x. n < number_of x) (drop i xs) → drop i xs ≡ above number_of n xs
  above_place n xs i low high =
      sym (ap (above number_of n) (sym (take-append-drop i xs))
      ∙ (filter-append (λ x. nat_lt n (number_of x)) (take i xs) (drop i xs)
      ∙ rw (above-none number_of n (take i xs) low, above-all number_of n (drop i xs) high)
      refl))

  pub found_at : (n : ℕ) (xs : List X) (i : ℕ) (x : X) → Rise number_of xs → i < length xs
      → slice_get xs i ≡ Some x → number_of x ≡ n → IsFoundAt number_of n xs i
  found_at n xs i x rise lt is e =
      let found : find number_of n xs ≡ Some x =
      subst (λ m. find number_of m xs ≡ Some x) e (find-at number_of xs i x rise is) in
      let here = λ (d : X). ap number_of (get_or_from_slice_get xs i x d is) ∙ e in
      record {
        in_range = lt;
        found = found ∙ sym is;
        there = ap is_some found;
        before = below_place n xs i (All-take (λ y. number_of y < n) i xs (omega arith)
            (λ k d low. omega (arith, here d, rise.rising k i d low lt)))
            (All-drop (λ y. n ≤ number_of y) i xs (omega arith)
            (λ k d low end. at_least k d low end (here d)));
        after = above_place n xs (i
            + 1) (All-take (λ y. number_of y ≤ n) (i + 1) xs (omega arith)
            (λ k d low. at_most k d low (here d)))
            (All-drop (λ y. n < number_of y) (i + 1) xs (omega arith)
            (λ k d low end. omega (arith, here d, rise.rising i k d (omega arith) end)));
      }
    where
      at_least : (k : ℕ) (d : X) → i ≤ k → k < length xs → number_of (slice_index_or xs i d) ≡ n
          → n ≤ number_of (slice_index_or xs k d)
      at_least k d low end here =
          elim (cases_eq i k) [
            | inl same ↦ subst (λ j. n ≤ number_of (slice_index_or xs j d)) same (omega arith)
            | inr other ↦ omega (arith, rise.rising i k d (omega arith) end)
          ]

      at_most : (k : ℕ) (d : X) → k < i + 1 → number_of (slice_index_or xs i d) ≡ n
          → number_of (slice_index_or xs k d) ≤ n
      at_most k d low here =
          elim (cases_eq i k) [
            | inl same ↦ subst (λ j. number_of (slice_index_or xs j d) ≤ n) same (omega arith)
            | inr other ↦ omega (arith, rise.rising k i d (omega arith) lt)
          ]

  pub missing_at : (n : ℕ) (xs : List X) (i : ℕ) → i ≤ length xs
      → ((k : ℕ) (d : X) → k < i → number_of (slice_index_or xs k d) < n)
      → ((k : ℕ) (d : X) → i ≤ k → k < length xs → n < number_of (slice_index_or xs k d))
      → IsMissingAt number_of n xs i
  missing_at n xs i le low high =
      record {
        in_range = le;
        absent = find-none number_of n xs (λ k d end. elim (cases_lt k i) [
          | inl lt ↦ λ e. omega (arith, low k d lt)
          | inr ge ↦ λ e. omega (arith, high k d ge end)
        ]);
        before = below_place n xs i (All-take (λ y. number_of y < n) i xs le low)
            (All-drop (λ y. n
            ≤ number_of y) i xs le (λ k d ge end. omega (arith, high k d ge end)));
        after = above_place n xs i (All-take (λ y. number_of y ≤ n) i xs le
            (λ k d lt. omega (arith, low k d lt))) (All-drop (λ y. n < number_of y) i xs le high);
      }

  -- a number above that of the last item
  pub past_last : (n : ℕ) (xs : List X) (x : X) → Rise number_of xs
      → x ≡ slice_index_or xs (length xs - 1) x → number_of x < n
      → IsMissingAt number_of n xs (length xs)
  past_last n xs x rise is lt = missing_at n xs (length xs) (omega arith) low
      (λ k d ge end. absurd (omega arith))
    where
      low : (k : ℕ) (d : X) → k < length xs → number_of (slice_index_or xs k d) < n
      low k d end =
          elim (cases_eq k (length xs - 1)) [
            | inl same ↦ omega (
              arith,
              lt,
              ap (λ j. number_of (slice_index_or xs j d)) same,
              ap number_of (is ∙ get_or_default xs (length xs - 1) x d (omega arith)),
            )
            | inr other ↦ omega (
              arith,
              lt,
              rise.rising k (length xs - 1) d (omega arith) (omega arith),
              ap number_of (is ∙ get_or_default xs (length xs - 1) x d (omega arith)),
            )
          ]

  -- what a binary search by numbers answers
  pub searched : (n : ℕ) (xs : List X) (r : Result ℕ ℕ) → Rise number_of xs
      → IsSearchInRange r (length xs) → IsBinarySearchResult (λ y. nat_cmp (number_of y) n) xs r
      → IsNumberPlace number_of n xs r
  searched n [] (Ok i) rise range equal = absurd (omega arith)
  searched n (x ∷ xs) (Ok i) rise range equal =
      found_at n (x ∷ xs) i (slice_index_or (x ∷ xs) i x) rise range
      (slice_get-get_or (x ∷ xs) i x range) (equal_to _ n (equal x))
  searched n xs (Err i) rise range parted =
      let parts = parted (searchable_from_sorted nat_cmp_total number_of xs n (ascending xs rise))
      in
      missing_at n xs i range (λ k d lt. less_than _ n (parts.0 k d (omega arith) lt))
      (λ k d ge end. greater_than _ n (parts.1 k d ge end))

  -- what stands at the place after each kind of exchange
  pub replaced : (n : ℕ) (x : X) (xs : List X) (i : ℕ) → IsFoundAt number_of n xs i
      → set xs i x ≡ set_at number_of n (Some x) xs
  unfolding set_at
  replaced n x xs i at = set_split xs i x at.in_range ∙ rw (← at.before, ← at.after, add-one) refl

  pub inserted : (n : ℕ) (x : X) (xs : List X) (i : ℕ) → IsMissingAt number_of n xs i
      → insert xs i x ≡ set_at number_of n (Some x) xs
  unfolding set_at
  inserted n x xs i at = rw (← at.before, ← at.after) refl

  -- each kind, of a list ys that is xs and contents as the code has them
  pub after_replacing : (n : ℕ) (new : Option X) (x y : X) (xs ys : List X) (i : ℕ)
      → IsFoundAt number_of n ys i → ys ≡ xs → y ≡ x → new ≡ Some x
      → set xs i y ≡ set_at number_of n new xs
  after_replacing n new x y xs ys i at same is e = ap (set xs i) is
      ∙ (replaced n x xs i (subst (λ zs. IsFoundAt number_of n zs i) same at)
      ∙ ap (λ o. set_at number_of n o xs) (sym e))

  pub after_inserting : (n : ℕ) (new : Option X) (x : X) (xs ys zs : List X) (i : ℕ)
      → IsMissingAt number_of n ys i → ys ≡ xs → zs ≡ insert xs i x → new ≡ Some x
      → zs ≡ set_at number_of n new xs
  after_inserting n new x xs ys zs i at same is e = is
      ∙ (inserted n x xs i (subst (λ ws. IsMissingAt number_of n ws i) same at)
      ∙ ap (λ o. set_at number_of n o xs) (sym e))

  -- what was taken out of the place
  pub taken_out : (n : ℕ) (x : X) (xs ys : List X) (i : ℕ) → IsFoundAt number_of n ys i → ys ≡ xs
      → x ≡ slice_index_or xs i x → Some x ≡ find number_of n xs
  taken_out n x xs ys i at same is =
      let here = subst (λ zs. IsFoundAt number_of n zs i) same at in
      sym (here.found ∙ slice_get_read xs (length xs) i x refl here.in_range is)
