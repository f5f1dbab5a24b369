-- The addresses of indices.
use Rattle.std.specs.Prelude.{◌≡◌, ℕ, ◌==◌, Bool, true, false, T, List, [], ◌∷◌, Option, Some, None, filter_map, find, map, refl}
use Rattle.std.specs.Bool.{passes}
use Rattle.std.specs.Cmp.{nat_cmp_total, tied_itself}
use Rattle.std.specs.FinMap as finite
use Rattle.std.specs.FinMap.{is_sorted}
use Rattle.std.specs.FinMap.Entries.{below_all}
use Rattle.std.specs.List.{AllByRecursion, IsDistinct, cons_option}
use Rattle.std.specs.Option.{option_map}
use Rattle.std.specs.Ordering.{is_lt, nat_cmp}
use Rattle.std.specs.declared.cmp.Ordering.TheVariants.{Less, Equal}
use Rattle.std.proofs.Common.{sym, ◌∙◌, ap, subst, true≢false}
use Rattle.std.proofs.lemmas.Bool.{eq-eqb, eqb-true}
use Rattle.std.proofs.lemmas.Map.Keys.{IsDistinct-cons}
use Rattle.std.proofs.lemmas.Option.{none-some, same_Some}
use Rattle.ratio_core.specs.Rational.{Rational}
use Rattle.address_map.specs.Places.{Indices, IsAddressAt}
use Rattle.aff_core.specs.Address.{Address, address_cmp, address_eq, address_eq-Decides}
use Rattle.aff_core.specs.Rising.{HasDistinctKeys}
use Rattle.map_laws.specs.PlaceLaws.{none_passes, place_of_found}
use Rattle.map_laws.specs.TestLaws.{first, is_less, second}
use Rattle.solver_store.specs.SolverFunction.{IndicesRise}
use Rattle.std_form.specs.NameLaws.{IsEntry, at_place, entries_found, found_place}
use Rattle.bridged_report.specs.Indexed.{address_of, term_in}

module _ (indices : Indices) (i : ℕ) where
  abbrev pub has_index : Address × ℕ → Bool
  has_index e = e.1 == i

  -- what is found has the index
  pub found_has : (e : Address × ℕ) → find has_index (finite.entries indices) ≡ Some e
      → finite.get indices e.0 ≡ Some i
  found_has e is =
      let place = place_of_found has_index (finite.entries indices) e is in
      at_place (IsEntry indices) (finite.entries indices) place.1.0 e (entries_found indices)
      place.1.1 ∙ ap Some (eqb-true e.1 i place.0)

  -- where nothing is found, no address has the index
  pub none_has : (at : Address) → find has_index (finite.entries indices) ≡ None
      → finite.get indices at ≡ Some i → ⊥
  none_has at is h =
      let place = found_place (finite.entries indices) at i (sym (finite.get-entries indices at)
      ∙ h) in
      true≢false (sym (eq-eqb i i refl) ∙ none_passes has_index (finite.entries indices) place.0
      (at, i) is place.1)

  pub address_of_is : (answer : Option Address) → IsAddressAt indices i answer
      → answer ≡ address_of indices i
  address_of_is answer h = by_found (find has_index (finite.entries indices)) refl
    where
      none_answered : find has_index (finite.entries indices) ≡ None → (o : Option Address)
          → answer ≡ o → answer ≡ None
      none_answered is None e = e
      none_answered is (Some at) e = absurd (none_has at is ((h at).0 e))

      by_found : (o : Option (Address × ℕ)) → find has_index (finite.entries indices) ≡ o
          → answer ≡ option_map (λ e. e.0) o
      by_found (Some e) is = (h e.0).1 (found_has e is)
      by_found None is = none_answered is answer refl

-- ---- terms of distinct indices have distinct addresses

not_less : (i j : ℕ) → T (is_lt (nat_cmp i j)) → i ≡ j → ⊥
not_less i j p e =
    let less : nat_cmp i j ≡ Less = is_less (nat_cmp i j) p in
    let tied : nat_cmp i j ≡ Equal = ap (nat_cmp i) (sym e) ∙ tied_itself nat_cmp_total i in
    cc

module _ (indices : Indices) where
  address_has : (i : ℕ) (at : Address) → address_of indices i ≡ Some at
      → finite.get indices at ≡ Some i
  address_has i at h = by_found (find (has_index indices i) (finite.entries indices)) refl h
    where
      by_found : (o : Option (Address × ℕ)) → find (has_index indices i) (finite.entries indices)
          ≡ o → option_map (λ e. e.0) o ≡ Some at → finite.get indices at ≡ Some i
      by_found None is named = absurd (none-some at named)
      by_found (Some e) is named =
          subst (λ a. finite.get indices a ≡ Some i) (same_Some e.0 at named)
          (found_has indices i e is)

  abbrev addresses_of : List (ℕ × Rational) → List Address
  addresses_of ts = map (λ e. e.0) (filter_map (term_in indices) ts)

  later_apart : (i : ℕ) (at : Address) → finite.get indices at ≡ Some i → (ts : List (ℕ × Rational))
      → T (below_all nat_cmp i ts) → AllByRecursion (λ a. address_eq at a ≡ false) (addresses_of ts)
  later_apart i at h [] below = tt
  later_apart i at h (t ∷ ts) below =
      by_address (address_of indices t.0) refl (later_apart i at h ts (second _ _ below))
    where
      apart : (a : Address) → address_of indices t.0 ≡ Some a → (b : Bool)
          → address_eq at a ≡ b → b ≡ false
      apart a is true e =
          absurd (not_less i t.0 (first _ _ below) (same_Some i t.0 (sym h
          ∙ ap (finite.get indices) ((address_eq-Decides at a).0 e) ∙ address_has t.0 a is)))
      apart a is false e = refl

      by_address : (o : Option Address) → address_of indices t.0 ≡ o
          → AllByRecursion (λ a. address_eq at a ≡ false) (addresses_of ts)
          → AllByRecursion (λ a. address_eq at a ≡ false)
          (map (λ e. e.0) (cons_option (option_map (λ a. (a, t.1)) o)
          (filter_map (term_in indices) ts)))
      by_address None is rest = rest
      by_address (Some a) is rest = (apart a is (address_eq at a) refl, rest)

  sorted_apart : (ts : List (ℕ × Rational)) → T (is_sorted nat_cmp ts)
      → HasDistinctKeys address_cmp (filter_map (term_in indices) ts)
  unfolding IsDistinct
  sorted_apart [] h = tt
  sorted_apart (t ∷ ts) h =
      by_address (address_of indices t.0) refl (sorted_apart ts (second _ _ h))
    where
      by_address : (o : Option Address) → address_of indices t.0 ≡ o
          → HasDistinctKeys address_cmp (filter_map (term_in indices) ts)
          → HasDistinctKeys address_cmp (cons_option (option_map (λ a. (a, t.1)) o)
          (filter_map (term_in indices) ts))
      by_address None is rest = rest
      by_address (Some a) is rest =
          IsDistinct-cons address_eq a (addresses_of ts)
          (later_apart t.0 a (address_has t.0 a is) ts (first _ _ h)) rest

  -- so they can be gathered
  pub distinct_terms : (ts : List (ℕ × Rational)) → IndicesRise ts
      → HasDistinctKeys address_cmp (filter_map (term_in indices) ts)
  distinct_terms ts rise = sorted_apart ts (passes _ rise.rising)
