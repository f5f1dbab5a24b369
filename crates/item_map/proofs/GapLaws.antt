-- An entry put among others or taken from them, at its place in the order of the addresses.
use Rattle.std.specs.Prelude.{◌≡◌, ℕ, suc, ◌<◌, Bool, true, false, not, cond, Option, None, Some, List, length, slice_get, slice_index_or, Result, Ok, Err, MatchResult, refl}
use Rattle.std.proofs.Common.{arith, sym, ap, subst, ◌∙◌}
use Rattle.std.specs.List.{remove}
use Rattle.std.specs.List.Sorted.{IsBinarySearchResult, IsSearchInRange}
use Rattle.std.proofs.lemmas.List.Sorted.{searchable_from_sorted}
use Rattle.std.specs.Ordering.{eq_by_cmp, is_eq, ordering_reverse}
use Rattle.std.specs.declared.cmp.Ordering.{Ordering}
use Rattle.std.specs.declared.cmp.Ordering.TheVariants.{Less, Equal, Greater}
use Rattle.std.specs.Cmp.{IsTotalOrder}
use Rattle.std.proofs.lemmas.Option.{get_or_from_slice_get}
use Rattle.std.specs.Option.{option_map}
use Rattle.map_laws.specs.PlaceLaws.{none_past}
use Rattle.std.specs.FinMap as finite
use Rattle.std.specs.FinMap.{FinMap, IsAntisymmetric}
use Rattle.std.specs.FinMap.Entries.{find-where_key, is_sorted-where_key, where_key}
use Rattle.aff_core.specs.Address.{Address, address_cmp, address_total, exact_addresses}
use Rattle.aff_core.specs.FunctionLaws.{entries_rise, rises}
use Rattle.aff_core.specs.Rising.{RiseStrictly}
use Rattle.map_laws.specs.EntryLaws.{ascending, key_less, searched}
use Rattle.map_laws.specs.MadeLaws.{from_sorted-entries}
use Rattle.map_laws.specs.PutLaws.{Within, others, put_gap, take_place, turned}
use Rattle.item_map.specs.Gaps.{IsGapFor, IsPlaceOf}

same_test : {K : Type 0} {R : K → K → Ordering} (total : IsTotalOrder R) (q k : K)
    → eq_by_cmp R q k ≡ eq_by_cmp R k q
same_test {R = R} total q k = ap is_eq (total.antisymm q k) ∙ mirrored (R k q)
  where
    mirrored : (o : Ordering) → is_eq (ordering_reverse o) ≡ is_eq o
    mirrored Less = refl
    mirrored Equal = refl
    mirrored Greater = refl

swapped : {X : Type 0} (b : Bool) (o : Option X) → cond b None o ≡ cond (not b) o None
swapped true o = refl
swapped false o = refl

entries-remove : {K X : Type 0} {R : K → K → Ordering} (total : IsTotalOrder R)
    (exact : IsAntisymmetric R) (m : FinMap R X) (k : K)
    → finite.entries (finite.remove m k) ≡ others total k (finite.entries m)
unfolding others
entries-remove {K} {X} {R} total exact m k =
    let p : K → Bool = λ x. not (eq_by_cmp R k x) in
    let kept = is_sorted-where_key R p (finite.entries m) (finite.entries_sorted m) in
    ap finite.entries (finite.same_map total exact (finite.remove m k)
    (finite.from_sorted (where_key R p (finite.entries m))) (λ q.
    finite.get-remove total m k q ∙ ap (λ b. cond b None (finite.get m q)) (same_test total q k)
    ∙ swapped (eq_by_cmp R k q) (finite.get m q) ∙ ap (λ o. cond (p q) o None)
    (finite.get-entries m q)
    ∙ sym (find-where_key R p q (λ x e. ap p (sym (exact q x e))) (finite.entries m))
    ∙ sym (finite.get-from_sorted R (where_key R p (finite.entries m)) q kept)))
    ∙ finite.entries-from_sorted R (where_key R p (finite.entries m)) kept

-- ---- what a binary search among the entries answers

module _ {X : Type 0} (m : FinMap address_cmp X) (at : Address) where
  found_at : (n : ℕ) → n < length (finite.entries m)
      → ((d : Address × X) → address_cmp (slice_index_or (finite.entries m) n d).0 at ≡ Equal)
      → finite.entries (finite.remove m at) ≡ remove (finite.entries m) n
  found_at n lt here =
      let sorted = finite.entries_sorted m in
      let same : (d : Address × X) → (slice_index_or (finite.entries m) n d).0 ≡ at =
      λ d. exact_addresses _ _ (here d) in
      let below : Within address_cmp (finite.entries m) at Less 0 n =
      λ j d from to. subst (λ k. address_cmp (slice_index_or (finite.entries m) j d).0 k ≡ Less)
      (same d) (key_less address_total (finite.entries m) j n d sorted to lt) in
      let above : Within address_cmp (finite.entries m) at Greater (suc n)
      (length (finite.entries m)) = λ j d from to. turned address_total (slice_index_or
      (finite.entries m) j d).0 at Less (subst
      (λ k. address_cmp k (slice_index_or (finite.entries m) j d).0 ≡ Less) (same d)
      (key_less address_total (finite.entries m) n j d sorted (omega (arith, from)) to)) in
      entries-remove address_total exact_addresses m at
      ∙ take_place address_total at (finite.entries m) n lt below here above

  pub placed : (r : Result ℕ ℕ) → IsSearchInRange r (length (finite.entries m))
      → IsBinarySearchResult (λ e. address_cmp e.0 at) (finite.entries m) r
      → MatchResult r (IsPlaceOf m at) (IsGapFor m at)
  placed (Ok n) range here = record {
    in_range = range;
    found = λ d. finite.get-entries m at ∙ searched address_total at (finite.entries m) (Ok n)
        (finite.entries_sorted m) range here d;
    others = found_at n range here;
  }
  placed (Err n) range parted =
      let parts = parted (searchable_from_sorted address_total (λ e. e.0) (finite.entries m) at
      (ascending address_total (finite.entries m) (finite.entries_sorted m))) in
      record {
        in_range = range;
        absent = finite.get-entries m at ∙ searched address_total at (finite.entries m) (Err n)
            (finite.entries_sorted m) range parted;
        given = λ i. finite.entries-insert address_total m at i
            ∙ put_gap address_total at i (finite.entries m) n range
            (λ j d from to. parts.0 j d (omega arith) to) (λ j d from to. parts.1 j d from to);
      }

-- ---- the map of entries in order

pub entries_kept : {X : Type 0} (items : List (Address × X)) → RiseStrictly items
    → finite.entries (finite.from_sorted {R = address_cmp} items) ≡ items
entries_kept items h = finite.entries-from_sorted address_cmp items (rises items h)

-- entries that are a map's rise, and make that map
module _ {X : Type 0} (m : FinMap address_cmp X) (items : List (Address × X)) (is : items ≡ finite.entries m) where
  pub made_rise : RiseStrictly items
  made_rise = subst RiseStrictly (sym is) (entries_rise m)

  pub made_map : finite.from_sorted {R = address_cmp} items ≡ m
  made_map = ap finite.from_sorted is ∙ from_sorted-entries address_total m

-- what was read at the place of an entry is its value
pub second_at : {X Y : Type 0} (es : List (Address × X)) (n : ℕ) (f : Y → Address × X)
    (o : Option Y) (found : Option X) → option_map f o ≡ slice_get es n → n < length es
    → ((d : Address × X) → found ≡ Some (slice_index_or es n d).1)
    → option_map (λ y. (f y).1) o ≡ found
second_at es n f None found is lt at = absurd (none_past n es (sym is) lt)
second_at es n f (Some y) found is lt at =
    sym (at (f y) ∙ ap (λ e. Some e.1) (get_or_from_slice_get es n (f y) (f y) (sym is)))

over_itself : {X : Type 0} (x : X) (b : Bool) (o : Option X)
    → cond b (Some x) (cond b None o) ≡ cond b (Some x) o
over_itself x true o = refl
over_itself x false o = refl

-- an address that is taken out and put in again has the last value
pub inserted_again : {X : Type 0} (m : FinMap address_cmp X) (at : Address) (x : X)
    → finite.insert (finite.remove m at) at x ≡ finite.insert m at x
inserted_again m at x =
    finite.same_map address_total exact_addresses (finite.insert (finite.remove m at) at x)
    (finite.insert m at x) (λ q.
    finite.get-insert address_total (finite.remove m at) at x q
    ∙ ap (cond (eq_by_cmp address_cmp q at) (Some x)) (finite.get-remove address_total m at q)
    ∙ over_itself x (eq_by_cmp address_cmp q at) (finite.get m q)
    ∙ sym (finite.get-insert address_total m at x q))
