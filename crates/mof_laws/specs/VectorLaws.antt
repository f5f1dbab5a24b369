-- Affine functions of vectors that were written read back: the constants first, and then the terms,
-- which go to one component after another.
use Rattle.std.specs.Prelude.{◌≡◌, ℕ, suc, ◌+◌, ◌-◌, ◌^◌, ◌<◌, All, ◌&&◌, cond, List, [], ◌∷◌, ◌++◌, length, map, Some, Ok, Err, codes, nat_le, nat_lt, option_and_then, option_map, slice_set, refl}
use Rattle.std.proofs.Common.{ap, append-nil, append_assoc, arith, length-append, sym, ◌∙◌}
use Rattle.std.proofs.lemmas.Bool.{and_from, cond-true, le-leb, lt-ltb}
use Rattle.std.proofs.lemmas.List.{set_at}
use Rattle.std.proofs.lemmas.List.Elements.{All-head, All-tail}
use Rattle.ratio_core.specs.Rational.{Fits, Rational}
use Rattle.aff_core.specs.Address.{Address}
use Rattle.aff_core.specs.Function.{Function}
use Rattle.aff_core.specs.Function as aff
use Rattle.named_aff.specs.declared.aff.NamedAff.{NamedAff}
use Rattle.named_aff.specs.declared.terms.NamedTerm.{NamedTerm}
use Rattle.named_aff.specs.Sums.{plus_term}
use Rattle.serde_json.specs.Data.{Data}
use Rattle.serde_json.specs.View.{items_of}
use Rattle.mof_values.specs.declared.fault.MofFault.TheVariants.{BadNumber, Shape}
use Rattle.mof_values.specs.Values.{an_array, an_object, field}
use Rattle.mof_values.specs.Walked.{Walked, ◌>>=◌, at, each, here, index, or_fault}
use Rattle.mof_file.specs.Functions.{Known, add_component, add_scalar_term, add_to_output, add_vector_term, constants_of, output_of, term_of, vector_affine_of, vector_terms_of, with_term_at}
use Rattle.mof_write.specs.Values.{array_of, count_data, list_of, number_data}
use Rattle.mof_write.specs.Written.{Naming, term_data, vector_affine_data, vector_term_data, vector_terms}
use Rattle.mof_laws.specs.FunctionLaws.{GoodTerm, IsFunctionReadable, good_first, term_back, with_term_new}
use Rattle.mof_laws.specs.ReadBack.{named_affine, named_term}
use Rattle.mof_laws.specs.ValueLaws.{count_back, number_back}
use Rattle.mof_laws.specs.WalkLaws.{AllGood, always_good, each_appends, field_back, get_behind}

-- ---- components

abbrev component : Rational → List NamedTerm → NamedAff
component c s = record { terms = s; constant = c }

abbrev empty_component : Function → NamedAff
empty_component f = component f.constant []

component_step : (s : List NamedAff) (f : Function) → Fits f.constant
    → add_component s (number_data f.constant) ≡ Ok (s ++ empty_component f ∷ [])
unfolding add_component
component_step s f h =
    ap (λ w. w >>= (λ c. Ok (s ++ component c [] ∷ []))) (number_back f.constant h)

constants_back : (fs : List Function) → All {X = Function} (λ f. Fits f.constant) fs
    → constants_of (array_of (λ f. number_data f.constant) fs) ≡ Ok (map empty_component fs)
unfolding constants_of an_array
constants_back fs h =
    each_appends add_component
    (λ f. number_data f.constant) empty_component (λ _ f. Fits f.constant)
    component_step 0 [] fs (always_good empty_component (λ f. Fits f.constant) [] fs h)

module _ (name : Naming) (known : Known) where
  module _ (done rest : List NamedAff) (c : Rational) where
    -- the components, with these terms in the one behind those that are done
    abbrev with_terms : List NamedTerm → List NamedAff
    with_terms s = done ++ component c s ∷ rest

    output_back : (s : List NamedTerm) → length done + 1 < 2 ^ 32
        → output_of (with_terms s) (count_data (length done + 1)) ≡ Ok (length done)
    unfolding output_of
    output_back s h =
        ap (λ w. w >>= (λ n. cond (nat_lt 0 n && nat_le n (length (with_terms s))) (Ok (n - 1))
        (Err (Shape here))))
        (count_back (length done + 1) h)
        ∙ cond-true _ _ _ (and_from _ _ (lt-ltb 0 (length done + 1) (omega arith))
        (le-leb (length done + 1) (length (with_terms s))
        (omega (arith, length-append done (component c s ∷ rest)))))
        ∙ ap Ok (one_lem (length done))
      where
        one_lem : (n : ℕ) → n + 1 - 1 ≡ n
        one_lem n = omega arith

    put_back : (s : List NamedTerm) (t : Address × Rational) → GoodTerm name known s t
        → with_term_at (with_terms s) (length done) (named_term name t)
        ≡ Some (with_terms (s ++ named_term name t ∷ []))
    put_back s t h =
        ap (λ o. option_and_then (λ f. option_map
        (λ sum. slice_set (with_terms s) (length done) sum)
        (plus_term f (named_term name t))) o) (get_behind done (component c s) rest)
        ∙ ap (λ o. option_map (λ sum. slice_set (with_terms s) (length done) sum)
        (option_map (λ terms. component c terms) o)) (with_term_new s (named_term name t) h.2)
        ∙ ap Some (set_at done (component c s) rest (component c (s ++ named_term name t ∷ []))
        (length done) refl)

    vector_term_back : (s : List NamedTerm) (t : Address × Rational) → GoodTerm name known s t
        → length done + 1 < 2 ^ 32
        → add_vector_term known (with_terms s) (vector_term_data name (length done + 1) t)
        ≡ Ok (with_terms (s ++ named_term name t ∷ []))
    unfolding add_vector_term add_to_output add_scalar_term an_object
    vector_term_back s t h few =
        ap (λ w. w >>= (λ n. field (term_of known) "scalar_term"
        (vector_term_data name (length done + 1) t)
        >>= (λ term. or_fault (BadNumber here) (with_term_at (with_terms s) n term))))
        (field_back (output_of (with_terms s)) (codes "output_index")
        (vector_term_data name (length done + 1) t)
        (count_data (length done + 1)) (length done) refl (output_back s few))
        ∙ ap (λ w. w >>= (λ term. or_fault (BadNumber here)
        (with_term_at (with_terms s) (length done) term)))
        (field_back (term_of known) (codes "scalar_term")
        (vector_term_data name (length done + 1) t)
        (term_data name t) (named_term name t) refl (term_back name known t h.0 h.1))
        ∙ ap (or_fault (BadNumber here)) (put_back s t h)

    -- the terms of this component, and more behind them
    one_component : (few : length done + 1 < 2 ^ 32) (more : List Data)
        (r : Walked (List NamedAff))
        (s : List NamedTerm) (ts : List (Address × Rational))
        → AllGood (named_term name) (GoodTerm name known) s ts
        → ((j : ℕ) → each (add_vector_term known) j (with_terms (s ++ map (named_term name) ts))
        (items_of more) ≡ r)
        → (i : ℕ) → each (add_vector_term known) i (with_terms s)
        (items_of (map (vector_term_data name (length done + 1)) ts ++ more)) ≡ r
    one_component few more r s [] good next i =
        ap (λ u. each (add_vector_term known) i (with_terms u) (items_of more)) (sym (append-nil s))
        ∙ next i
    one_component few more r s (t ∷ ts) good next i =
        ap (λ w. at (index i) w >>= (λ cs. each (add_vector_term known) (suc i) cs
        (items_of (map (vector_term_data name (length done + 1)) ts ++ more))))
        (vector_term_back s t good.0 few)
        ∙ one_component few more r (s ++ named_term name t ∷ []) ts good.1
        (λ j. ap (λ u. each (add_vector_term known) j (with_terms u) (items_of more))
        (append_assoc s (named_term name t ∷ []) (map (named_term name) ts)) ∙ next j) (suc i)

  all_components : (done : List NamedAff) (k : ℕ) (fs : List Function) → k ≡ length done
      → k + length fs < 2 ^ 32 → All {X = Function} (IsFunctionReadable name known) fs → (i : ℕ)
      → each (add_vector_term known) i (done ++ map empty_component fs)
      (items_of (vector_terms name k fs))
      ≡ Ok (done ++ map (named_affine name) fs)
  all_components done k [] e few h i = refl
  all_components done k (f ∷ fs) e few h i =
      ap (λ n. each (add_vector_term known) i (done ++ map empty_component (f ∷ fs))
      (items_of (map (vector_term_data name (n + 1)) (aff.terms_of f) ++ vector_terms name
      (k + 1) fs))) e
      ∙ one_component done (map empty_component fs) f.constant (omega arith)
      (vector_terms name (k + 1) fs)
      (Ok (done ++ map (named_affine name) (f ∷ fs))) [] (aff.terms_of f)
      (good_first name known f (All-head (IsFunctionReadable name known) f fs h))
      (λ j. ap (λ cs. each (add_vector_term known) j cs (items_of (vector_terms name (k + 1) fs)))
      (sym (append_assoc done (named_affine name f ∷ []) (map empty_component fs)))
      ∙ all_components (done ++ named_affine name f ∷ []) (k + 1) fs
      (omega (arith, e, length-append done (named_affine name f ∷ []))) (omega arith)
      (All-tail (IsFunctionReadable name known) f fs h) j
      ∙ ap Ok (append_assoc done (named_affine name f ∷ []) (map (named_affine name) fs))) i

  vector_terms_back : (fs : List Function) → length fs < 2 ^ 32
      → All {X = Function} (IsFunctionReadable name known) fs
      → vector_terms_of known (map empty_component fs) (list_of (vector_terms name 0 fs))
      ≡ Ok (map (named_affine name) fs)
  unfolding vector_terms_of an_array
  vector_terms_back fs few h = all_components [] 0 fs refl (omega arith) h 0

  pub vector_affine_back : (fs : List Function) → length fs < 2 ^ 32
      → All {X = Function} (IsFunctionReadable name known) fs
      → vector_affine_of known (vector_affine_data name fs) ≡ Ok (map (named_affine name) fs)
  unfolding vector_affine_of vector_affine_data
  vector_affine_back fs few h =
      ap (λ w. w >>= (λ cs. field (vector_terms_of known cs) "terms" (vector_affine_data name fs)))
      (field_back constants_of (codes "constants") (vector_affine_data name fs)
      (array_of (λ f. number_data f.constant) fs) (map empty_component fs) refl
      (constants_back fs (λ k d within. (h k d within).fits.0)))
      ∙ field_back (vector_terms_of known (map empty_component fs)) (codes "terms")
      (vector_affine_data name fs) (list_of (vector_terms name 0 fs)) (map (named_affine name) fs)
      refl (vector_terms_back fs few h)
