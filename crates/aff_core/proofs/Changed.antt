-- A term put among others or taken from them, at its place.
use Rattle.std.specs.Prelude.{◌≡◌, ◌≢◌, ℕ, ◌+◌, ◌-◌, ◌<◌, ◌≤◌, true, cond, List, [], ◌∷◌, ◌++◌, take, drop, length, filter, slice_index_or, Result, Ok, Err, MatchResult}
use Rattle.std.proofs.Common.{arith, add-one, sym, ap, subst, ◌∙◌}
use Rattle.std.proofs.lemmas.List.{length-drop}
use Rattle.std.proofs.Math.Seq.{take-length}
use Rattle.std.proofs.lemmas.List.Elements.{All-take, filter-append}
use Rattle.std.proofs.lemmas.List.Sums.{AllPass-from_list_all, list_all-from_AllPass}
use Rattle.std.specs.declared.cmp.Ordering.TheVariants.{Less, Equal, Greater}
use Rattle.std.specs.FinMap.{entries, entries_sorted, insert, entries-insert}
use Rattle.std.specs.List.Sorted.{IsBinarySearchResult, IsSearchInRange}
use Rattle.std.proofs.lemmas.List.Sorted.{searchable_from_sorted}
use Rattle.rational_laws.specs.Tests.{nonzero_test, zero_test}
use Rattle.ratio_core.specs.Rational.{Rational, zero_ℚ}
use Rattle.aff_core.specs.Address.{Address, address_cmp, address_total, exact_addresses}
use Rattle.aff_core.specs.Function.{Function, function_of, terms_of, with_coefficient}
use Rattle.aff_core.specs.Kept.{IsSpanOf}
use Rattle.aff_core.specs.Terms.{HaveNoZero, is_nonzero}
use Rattle.aff_core.specs.Rising.{RiseStrictly}
use Rattle.map_laws.specs.EntryLaws.{ascending, key_less}
use Rattle.map_laws.specs.PutLaws.{Within, put_gap, put_place}
use Rattle.aff_core.specs.FunctionLaws.{entries_rise, filter_nonzero, filter_rises, function_of-filter, nonzero-filter}
use Rattle.aff_core.proofs.Summing.{drop_nonzero}

-- the items of a slice from a place on
pub rest_of : {X : Type 0} (xs : List X) (i : ℕ) → take (length xs - i) (drop i xs) ≡ drop i xs
rest_of xs i = ap (λ n. take n (drop i xs)) (sym (length-drop i xs)) ∙ take-length (drop i xs)

-- ---- what a binary search among the terms answers

module _ (f : Function) (at : Address) where
  span_at : (n : ℕ) → n < length (terms_of f)
      → ((d : Address × Rational) → address_cmp (slice_index_or (terms_of f) n d).0 at ≡ Equal)
      → IsSpanOf f at n 1
  span_at n lt here =
      let sorted = entries_sorted f.terms in
      let same : (d : Address × Rational) → (slice_index_or (terms_of f) n d).0 ≡ at =
      λ d. exact_addresses _ _ (here d) in
      let below : Within address_cmp (terms_of f) at Less 0 n =
      λ j d from to. subst (λ k. address_cmp (slice_index_or (terms_of f) j d).0 k ≡ Less)
      (same d) (key_less address_total (terms_of f) j n d sorted to lt) in
      record {
        in_range = omega arith;
        given = λ q. entries-insert address_total f.terms at q
            ∙ put_place address_total at exact_addresses q (terms_of f) n lt below here
            ∙ ap (λ m. take n (terms_of f) ++ (at, q) ∷ drop m (terms_of f)) (sym (add-one n));
      }

  span_between : (n : ℕ) → n ≤ length (terms_of f) → Within address_cmp (terms_of f) at Less 0 n
      → Within address_cmp (terms_of f) at Greater n (length (terms_of f)) → IsSpanOf f at n 0
  span_between n lt below above = record {
    in_range = omega arith;
    given = λ q. entries-insert address_total f.terms at q
        ∙ put_gap address_total at q (terms_of f) n lt below above
        ∙ ap (λ m. take n (terms_of f) ++ (at, q) ∷ drop m (terms_of f)) (omega arith);
  }

  pub span_found : (r : Result ℕ ℕ) → IsSearchInRange r (length (terms_of f))
      → IsBinarySearchResult (λ t. address_cmp t.0 at) (terms_of f) r
      → MatchResult r (λ n. IsSpanOf f at n 1) (λ n. IsSpanOf f at n 0)
  span_found (Ok n) range here = span_at n range here
  span_found (Err n) range parted =
      let parts = parted (searchable_from_sorted address_total (λ t. t.0) (terms_of f) at
      (ascending address_total (terms_of f) (entries_sorted f.terms))) in
      span_between n range (λ j d from to. parts.0 j d (omega arith) to)
      (λ j d from to. parts.1 j d from to)

-- ---- the function with one coefficient changed

-- terms among which one may be 0
filtered : (before after : List (Address × Rational)) (t : Address × Rational) → HaveNoZero before
    → HaveNoZero after → filter is_nonzero (before ++ t ∷ after)
    ≡ before ++ (filter is_nonzero (t ∷ []) ++ after)
filtered before after t h k =
    filter-append is_nonzero before (t ∷ after)
    ∙ (λ i. nonzero-filter before h i ++ (filter-append is_nonzero (t ∷ []) after
    ∙ ap (λ l. filter is_nonzero (t ∷ []) ++ l) (nonzero-filter after k)) i)

module _ (f : Function) (at : Address) (q : Rational) {items : List (Address × Rational)}
    (is : items ≡ filter is_nonzero (entries (insert f.terms at q))) where
  pub replaced_rise : RiseStrictly items
  replaced_rise = subst RiseStrictly (sym is) (filter_rises _ (entries_rise (insert f.terms at q)))

  pub replaced_nonzero : HaveNoZero items
  replaced_nonzero = subst HaveNoZero (sym is) (filter_nonzero (entries (insert f.terms at q)))

  pub replaced_is : (k : Rational) (h : Function) → k ≡ f.constant → h ≡ function_of items k
      → h ≡ with_coefficient f at q
  unfolding with_coefficient
  replaced_is k h same made =
      made ∙ (λ i. function_of (is i) (same i))
      ∙ function_of-filter (entries (insert f.terms at q)) f.constant
      (entries_rise (insert f.terms at q))

module _ (f : Function) (at : Address) (from count : ℕ) (span : IsSpanOf f at from count)
    (q : Rational) where
  before : HaveNoZero (take from (terms_of f))
  before =
      list_all-from_AllPass is_nonzero _ (All-take (λ t. is_nonzero t ≡ true) from (terms_of f)
      (AllPass-from_list_all is_nonzero (terms_of f) f.nonzero))

  after : HaveNoZero (drop (from + count) (terms_of f))
  after = drop_nonzero (from + count) (terms_of f) f.nonzero

  -- the terms that are put together are those of the function's map with the new number, but the
  -- zeros
  pub replaced_terms : filter is_nonzero (entries (insert f.terms at q))
      ≡ take from (terms_of f) ++ (filter is_nonzero ((at, q) ∷ []) ++ drop (from + count)
      (terms_of f))
  replaced_terms =
      ap (filter is_nonzero) (span.given q) ∙ filtered (take from (terms_of f))
      (drop (from + count) (terms_of f)) (at, q) before after

  given : q ≢ zero_ℚ → filter is_nonzero ((at, q) ∷ []) ≡ (at, q) ∷ []
  given n = ap (λ b. cond b ((at, q) ∷ []) []) (nonzero_test q n)

  removed : q ≡ zero_ℚ → filter is_nonzero ((at, q) ∷ []) ≡ []
  removed e = ap (λ b. cond b ((at, q) ∷ []) []) (zero_test q e)

  pub with_given : (items : List (Address × Rational))
      → items ≡ take from (terms_of f) ++ ((at, q) ∷ [] ++ drop (from + count) (terms_of f))
      → q ≢ zero_ℚ → items ≡ filter is_nonzero (entries (insert f.terms at q))
  with_given items e n =
      e ∙ ap (λ l. take from (terms_of f) ++ (l ++ drop (from + count) (terms_of f)))
      (sym (given n)) ∙ sym replaced_terms

  pub with_removed : (items : List (Address × Rational))
      → items ≡ take from (terms_of f) ++ ([] ++ drop (from + count) (terms_of f)) → q ≡ zero_ℚ
      → items ≡ filter is_nonzero (entries (insert f.terms at q))
  with_removed items e none =
      e ∙ ap (λ l. take from (terms_of f) ++ (l ++ drop (from + count) (terms_of f)))
      (sym (removed none)) ∙ sym replaced_terms
