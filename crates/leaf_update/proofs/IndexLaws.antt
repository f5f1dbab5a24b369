-- Terms by the indices of their addresses: in the order of the indices they make a function that
-- is read as the one that they are of.
use Rattle.std.specs.Prelude.{◌≡◌, ℕ, ◌+◌, ◌≤◌, ◌<◌, true, false, T, List, [], ◌∷◌, All, IsSome, Option, Some, None, length, map, slice_index_or, unwrap_or, refl}
use Rattle.std.specs.Cmp.{nat_cmp_total}
use Rattle.std.specs.FinMap as finite
use Rattle.std.specs.FinMap.{is_sorted}
use Rattle.std.specs.List.Sorted.{IsNonDecreasingBy, IsPermutation}
use Rattle.std.specs.Ordering.{eq_by_cmp, nat_cmp}
use Rattle.std.specs.declared.cmp.Ordering.TheVariants.{Less}
use Rattle.std.proofs.Common.{sym, ◌∙◌, ap, ap₂, subst, arith}
use Rattle.std.proofs.lemmas.List.{get_or-map, length-map}
use Rattle.std.proofs.lemmas.List.Elements.{All-head, All-map, All-tail, All-weaker}
use Rattle.std.proofs.lemmas.List.Sorted.{All-permutation, IsPermutation-map}
use Rattle.std.proofs.lemmas.List.Sums.{AllPass-from_list_all, list_all-from_AllPass}
use Rattle.std.proofs.lemmas.Map.Keys.{apart_from_distinct}
use Rattle.ratio_core.specs.Rational.{Rational, one_ℚ}
use Rattle.address_map.specs.Places.{AreIndicesOneToOne, Indices}
use Rattle.aff_core.specs.Address.{Address, address_cmp}
use Rattle.aff_core.specs.Function.{Function, function_of, gathered, terms_of, variable}
use Rattle.aff_core.specs.FunctionLaws.{constant-function_of, function_of-terms, nonzero-filter, terms-function_of, terms-variable, tested}
use Rattle.aff_core.specs.KeyOrder.{address_order, other_key}
use Rattle.aff_core.specs.Rising.{HasDistinctKeys}
use Rattle.aff_core.specs.Terms.{HaveNoZero, is_nonzero}
use Rattle.item_core.specs.Item.{functions_of}
use Rattle.item_core.specs.declared.item.Body.{Body}
use Rattle.item_core.specs.declared.item.Item.{Item}
use Rattle.leaf_update.specs.Named.{HasIndices, IsIndexed, index_at, indexed_terms}
use Rattle.leaf_update.proofs.KeyLaws.{less_differs, made_of_entries, renamed_distinct, rising_distinct, same_made}
use Rattle.leaf_model.specs.ReadThrough.{address_in, named, named_terms}
use Rattle.map_laws.specs.EntryLaws.{is_sorted_adjacent}
use Rattle.map_laws.specs.OptionLaws.{not_some}
use Rattle.solver_store.specs.SolverFunction.{IndicesRise}
use Rattle.std_form.specs.NameLaws.{IsTermIndexNamed, NamesNamed, address_in_is, index_order}

-- ---- numbers in order, no two of which are equal, rise

less_of : (a b : ℕ) → a ≤ b → eq_by_cmp nat_cmp a b ≡ false → nat_cmp a b ≡ Less
less_of a b h n = grind arith

pub indices_rise : {X : Type 0} (ys : List (ℕ × X)) → IsNonDecreasingBy (λ t. t.0) ys
    → HasDistinctKeys nat_cmp ys → IndicesRise ys
indices_rise {X} ys order distinct =
    record { rising = tested _ (is_sorted_adjacent nat_cmp_total ys below) }
  where
    key : (k : ℕ) (d : ℕ × X) → k < length ys → slice_index_or (map (λ t. t.0) ys) k d.0
        ≡ (slice_index_or ys k d).0
    key k d lt = get_or-map (λ t. t.0) ys k d d.0 lt

    below : (k : ℕ) (d : ℕ × X) → k + 1 < length ys
        → nat_cmp (slice_index_or ys k d).0 (slice_index_or ys (k + 1) d).0 ≡ Less
    below k d lt =
        less_of _ _ (order k (k + 1) d (omega arith) lt)
        (sym (ap₂ (eq_by_cmp nat_cmp) (key k d (omega arith)) (key (k + 1) d lt))
        ∙ apart_from_distinct (eq_by_cmp nat_cmp) (map (λ t. t.0) ys) k (k + 1) d.0 distinct
        (omega arith) (omega (arith, length-map ys (λ t. t.0), lt)))

-- ---- terms by their indices

module _ (indices : Indices) where
  pub index_is : (at : Address) → IsSome (finite.get indices at)
      → finite.get indices at ≡ Some (index_at indices at)
  index_is at h = by (finite.get indices at) refl
    where
      by : (o : Option ℕ) → finite.get indices at ≡ o → o ≡ Some (unwrap_or o 0)
      by None e = absurd (not_some (finite.get indices at) e h)
      by (Some i) e = refl

  abbrev HasIndex : Address × Rational → Type 0
  HasIndex t = IsSome (finite.get indices t.0)

  module _ (one : AreIndicesOneToOne indices) where
    other_index : (t u : Address × Rational) → HasIndex t → HasIndex u
        → address_cmp t.0 u.0 ≡ Less
        → eq_by_cmp nat_cmp (index_at indices t.0) (index_at indices u.0) ≡ false
    other_index t u ht hu less =
        other_key index_order (index_at indices t.0) (index_at indices u.0)
        (λ e. less_differs address_order t.0 u.0 less (one t.0 u.0 (index_at indices t.0)
        (index_is t.0 ht) (index_is u.0 hu ∙ ap Some (sym e))))

    pub indexed_distinct : (ts : List (Address × Rational)) → T (is_sorted address_cmp ts)
        → All HasIndex ts → HasDistinctKeys nat_cmp (indexed_terms indices ts)
    indexed_distinct ts h hts =
        renamed_distinct address_cmp nat_cmp (index_at indices) HasIndex other_index ts h hts

    named_again : (ts : List (Address × Rational)) → All HasIndex ts
        → named_terms indices (indexed_terms indices ts) ≡ ts
    named_again [] h = refl
    named_again (t ∷ ts) h =
        ap₂ ◌∷◌
        (λ i. (
          address_in_is indices one t.0 (index_at indices t.0)
              (index_is t.0 (All-head HasIndex t ts h)) i,
          t.1,
        ))
        (named_again ts (All-tail HasIndex t ts h))

    module _ (f : Function) (indexed : IsIndexed indices f) (ys : List (ℕ × Rational))
        (permuted : IsPermutation (indexed_terms indices (terms_of f)) ys)
        (rising : IndicesRise ys) where
      all_nonzero : HaveNoZero ys
      all_nonzero =
          list_all-from_AllPass is_nonzero ys
          (All-permutation (λ t. is_nonzero t ≡ true)
          (indexed_terms indices (terms_of f)) ys permuted
          (All-map (λ t. is_nonzero t ≡ true) (λ t. (index_at indices t.0, t.1)) (terms_of f)
          (AllPass-from_list_all is_nonzero (terms_of f) f.nonzero)))

      terms_made : terms_of (function_of {R = nat_cmp} ys f.constant) ≡ ys
      terms_made = terms-function_of ys f.constant rising ∙ nonzero-filter ys all_nonzero

      gathered_terms : gathered {R = address_cmp} (named_terms indices ys) f.constant ≡ f
      unfolding gathered
      gathered_terms =
          ap (λ m. function_of (finite.entries m) f.constant)
          (sym (same_made address_order (named_terms indices (indexed_terms indices (terms_of f)))
          (named_terms indices ys)
          (IsPermutation-map (λ t. (address_in indices t.0, t.1))
          (indexed_terms indices (terms_of f)) ys permuted)
          (subst (HasDistinctKeys address_cmp) (sym (named_again (terms_of f) indexed))
          (rising_distinct address_cmp (terms_of f) (finite.entries_sorted f.terms))))
          ∙ ap (λ ts. finite.from_entries {R = address_cmp} ts) (named_again (terms_of f) indexed)
          ∙ made_of_entries address_order f.terms)
          ∙ function_of-terms f

      pub read_again : named indices (function_of ys f.constant) ≡ f
      read_again =
          ap₂ (λ ts k. gathered {R = address_cmp} (named_terms indices ts) k) terms_made
          (constant-function_of nat_cmp ys f.constant)
          ∙ gathered_terms

      pub names_made : NamesNamed indices (function_of ys f.constant)
      names_made =
          subst (All (IsTermIndexNamed indices)) (sym terms_made)
          (All-permutation (IsTermIndexNamed indices) (indexed_terms indices (terms_of f)) ys permuted
          (All-map (IsTermIndexNamed indices) (λ t. (index_at indices t.0, t.1)) (terms_of f)
          (All-weaker HasIndex (λ t. IsTermIndexNamed indices (index_at indices t.0, t.1))
          (λ t h. (t.0, index_is t.0 h)) (terms_of f) indexed)))

-- ---- what an item's functions mention has an index

pub affine_indexed : (indices : Indices) (item : Item) (body : Body) (f : Function)
    → item.body ≡ body → functions_of body ≡ f ∷ [] → HasIndices indices item → IsIndexed indices f
affine_indexed indices item body f is one h =
    All-head (IsIndexed indices) f [] (subst (All (IsIndexed indices)) one
    (subst (λ b. All (IsIndexed indices) (functions_of b)) is h))

pub plain_indexed : (indices : Indices) (item : Item) (body : Body) (var : Address)
    → item.body ≡ body → functions_of body ≡ variable var ∷ [] → HasIndices indices item
    → IsSome (finite.get indices var)
plain_indexed indices item body var is one h =
    All-head (HasIndex indices) (var, one_ℚ) []
    (subst (All (HasIndex indices)) (terms-variable address_cmp var)
    (affine_indexed indices item body (variable var) is one h))
