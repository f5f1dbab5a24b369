-- Entries in the order of their components: the first of each stays the first, and is found by halving.
use Rattle.std.specs.Prelude.{◌≡◌, ◌==◌, ◌≤◌, ◌<◌, ◌&&◌, ℕ, zero, suc, Bool, true, false, not, cond, List, [], ◌∷◌, filter, find, length, slice_get, Option, Some, None, refl}
use Rattle.std.specs.List.Sorted.{IsNonDecreasingBy, IsPartitionPoint, IsPartitionedBy, IsStableByKey, ties}
use Rattle.std.specs.Option.{option_map_or}
use Rattle.std.specs.Ordering.{is_eq, is_lt, ordering_index, ordering_reverse}
use Rattle.std.specs.declared.cmp.Ordering.{Ordering}
use Rattle.std.specs.declared.cmp.Ordering.TheVariants.{Less, Equal, Greater}
use Rattle.std.proofs.Common.{ap, arith, get_or, sym, ◌∙◌, true≢false}
use Rattle.std.proofs.lemmas.Bool.Decides.{nat_tests}
use Rattle.std.proofs.lemmas.List.Sorted.{searchable_from_sorted}
use Rattle.std.proofs.lemmas.Option.{slice_get_past, slice_get_read}
use Rattle.aff_core.specs.Address.{Address, address_cmp, address_eq, address_total}
use Rattle.item_core.specs.declared.image.Expression.TheVariants.{Kept}
use Rattle.fresh_bridging.specs.Entries.{Entry, expression_in}
use Rattle.bridge_plan.specs.Stands.{AreByComponent}

abbrev pub is_at : Address → Entry → Bool
is_at v e = address_eq e.component v

abbrev pub is_before : Address → Entry → Bool
is_before v e = is_lt (address_cmp e.component v)

abbrev place : Address → Entry → ℕ
place v e = ordering_index (address_cmp e.component v)

-- ---- entries that are sorted, those of one component in the order that they had

first_passing : {X : Type 0} (p q : X → Bool) → ((x : X) → p x ≡ q x) → (xs : List X)
    → find p xs ≡ slice_get (filter q xs) 0
first_passing p q same [] = refl
first_passing p q same (x ∷ xs) =
    ap (λ b. cond b (Some x) (find p xs)) (same x) ∙ by (q x) (first_passing p q same xs)
  where
    by : (b : Bool) → find p xs ≡ slice_get (filter q xs) 0
        → cond b (Some x) (find p xs) ≡ slice_get (cond b (x ∷ filter q xs) (filter q xs)) 0
    by true later = refl
    by false later = later

-- an address ties with itself alone
tied : (u v : Address)
    → address_eq u v ≡ (not (is_lt (address_cmp v u)) && not (is_lt (address_cmp u v)))
tied u v =
    by (address_cmp u v)
    ∙ ap (λ o. not (is_lt o) && not (is_lt (address_cmp u v))) (sym (address_total.antisymm v u))
  where
    by : (o : Ordering) → is_eq o ≡ (not (is_lt (ordering_reverse o)) && not (is_lt o))
    by Less = refl
    by Equal = refl
    by Greater = refl

pub found_alike : (xs ys : List Entry) → IsStableByKey (λ e. e.component) address_cmp xs ys
    → expression_in ys ≡ expression_in xs
found_alike xs ys stable = λ i v. alike v i
  where
    alike : (v : Address) → expression_in ys v ≡ expression_in xs v
    alike v =
        ap (λ o. option_map_or (λ e. e.expression) o (Kept v))
        (first_passing (is_at v) ties_with (λ e. tied e.component v) ys
        ∙ ap (λ es. slice_get es 0) (stable one)
        ∙ sym (first_passing (is_at v) ties_with (λ e. tied e.component v) xs))
      where
        one : Entry
        one = record { component = v; expression = Kept v }

        ties_with : Entry → Bool
        ties_with = ties (λ x y. is_lt (address_cmp x.component y.component)) one

-- ---- numbers that don't fall: the first that is above 0

module _ {X : Type 0} (n : X → ℕ) where
  none_past : (xs : List X) → ((k : ℕ) (d : X) → k < length xs → 2 ≤ n (get_or xs k d))
      → find (λ x. n x == 1) xs ≡ None
  none_past [] h = refl
  none_past (x ∷ xs) h =
      ap (λ b. cond b (Some x) (find (λ y. n y == 1) xs)) (above (n x) (h 0 x (omega arith)))
      ∙ none_past xs (λ k d lt. h (suc k) d (omega arith))
    where
      above : (m : ℕ) → 2 ≤ m → (m == 1) ≡ false
      above m h = grind (arith, nat_tests)

  abbrev one_of : Option X → Option X
  one_of None = None
  one_of (Some x) = cond (n x == 1) (Some x) None

  first_above : (xs : List X) (i : ℕ) → IsNonDecreasingBy n xs
      → ((k : ℕ) (d : X) → k < i → k < length xs → n (get_or xs k d) ≡ 0)
      → ((d : X) → i < length xs → 1 ≤ n (get_or xs i d))
      → find (λ x. n x == 1) xs ≡ one_of (slice_get xs i)
  first_above [] i up below above = refl
  first_above (x ∷ xs) zero up below above = by (n x == 1) refl
    where
      later : (m : ℕ) → (m == 1) ≡ false → 1 ≤ m → 2 ≤ m
      later m e h = grind (arith, nat_tests)

      by : (b : Bool) → (n x == 1) ≡ b
          → cond b (Some x) (find (λ y. n y == 1) xs) ≡ cond b (Some x) None
      by true e = refl
      by false e =
          let two : 2 ≤ n x = later (n x) e (above x (omega arith)) in
          none_past xs (λ k d lt.
          let more : n x ≤ n (get_or xs k d) = up 0 (suc k) d (omega arith) (omega arith) in
          omega arith)
  first_above (x ∷ xs) (suc i) up below above =
      ap (λ b. cond b (Some x) (find (λ y. n y == 1) xs))
      (ap (λ m. m == 1) (below 0 x (omega arith) (omega arith)))
      ∙ first_above xs i (λ j k d l m. up (suc j) (suc k) d (omega arith) (omega arith))
      (λ k d lt m. below (suc k) d (omega arith) (omega arith))
      (λ d lt. above d (omega arith))

-- ---- what is found

at_one : (o : Ordering) → is_eq o ≡ (ordering_index o == 1)
at_one Less = refl
at_one Equal = refl
at_one Greater = refl

at_zero : (o : Ordering) → is_lt o ≡ true → ordering_index o ≡ 0
at_zero Less e = refl
at_zero Equal e = cc
at_zero Greater e = cc

above_zero : (o : Ordering) → is_lt o ≡ false → 1 ≤ ordering_index o
above_zero Less e = cc
above_zero Equal e = omega arith
above_zero Greater e = omega arith

is_below : (o : Ordering) → ordering_index o ≤ 0 → is_lt o ≡ true
is_below Less h = refl
is_below Equal h = absurd (omega arith)
is_below Greater h = absurd (omega arith)

module _ (es : List Entry) (v : Address) (sorted : AreByComponent es) where
  rising : IsNonDecreasingBy (place v) es
  rising = searchable_from_sorted address_total (λ (e : Entry). e.component) es v sorted

  pub partitioned : IsPartitionedBy (is_before v) es
  partitioned i j d l m t =
      is_below (address_cmp (get_or es i d).component v)
      (let last = at_zero (address_cmp (get_or es j d).component v) t in
      let up = rising i j d l m in
      omega arith)

  module _ (i : ℕ)
      (point : IsPartitionPoint (λ e. is_before v e ≡ true) (λ e. is_before v e ≡ false) es i) where
    found : find (is_at v) es ≡ one_of (place v) (slice_get es i)
    found =
        (λ j. find (λ e. at_one (address_cmp e.component v) j) es)
        ∙ first_above (place v) es i rising
        (λ k d below lt. at_zero (address_cmp (get_or es k d).component v)
        (point.0 k d (omega arith) below))
        (λ d lt. above_zero (address_cmp (get_or es i d).component v)
        (point.1 i d (omega arith) lt))

    by_found : (o : Option Entry) → slice_get es i ≡ o
        → expression_in es v ≡ option_map_or (λ e. e.expression) (one_of (place v) o) (Kept v)
    by_found o is =
        ap (λ f. option_map_or (λ e. e.expression) f (Kept v)) (found ∙ ap (one_of (place v)) is)

    pub past_all : length es ≤ i → expression_in es v ≡ Kept v
    past_all end = by_found None (slice_get_past es i end)

    -- by a test whether the next entry's component is another
    module _ (e : Entry) (lt : i < length es) (is : e ≡ get_or es i e) (other : Bool)
        (test : other ≡ not (is_at v e)) where
      by_next : (b : Bool) → is_at v e ≡ b
          → expression_in es v
          ≡ option_map_or (λ x. x.expression) (cond b (Some e) None) (Kept v)
      by_next b t =
          by_found (Some e) (slice_get_read es (length es) i e refl lt is)
          ∙ ap (λ b. option_map_or (λ x. x.expression) (cond b (Some e) None) (Kept v))
          (sym (at_one (address_cmp e.component v)) ∙ t)

      pub found_next : other ≡ false → expression_in es v ≡ e.expression
      found_next t = by_next true (turned (is_at v e) (sym test ∙ t))
        where
          turned : (b : Bool) → not b ≡ false → b ≡ true
          turned true h = refl
          turned false h = absurd (true≢false h)

      pub found_none : other ≡ true → expression_in es v ≡ Kept v
      found_none t = by_next false (turned (is_at v e) (sym test ∙ t))
        where
          turned : (b : Bool) → not b ≡ true → b ≡ false
          turned true h = absurd (true≢false (sym h))
          turned false h = refl
