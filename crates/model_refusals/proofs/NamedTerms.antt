-- How many terms a function by name has in a model that has its names.
use Rattle.std.specs.Prelude.{◌≡◌, ℕ, ◌+◌, Bool, true, false, not, cond, List, [], ◌∷◌, map, length, Some, None, count_by, refl}
use Rattle.std.specs.List.{AllByRecursion, list_any}
use Rattle.std.specs.Str.{bytes_eq}
use Rattle.std.specs.FinMap as finite
use Rattle.std.proofs.Common.{sym, ap, ◌∙◌}
use Rattle.std.proofs.lemmas.Bool.{not-false, or_parts}
use Rattle.std.proofs.lemmas.Map.Keys.{IsDistinct-head, IsDistinct-tail}
use Rattle.std.proofs.lemmas.List.Sums.{length-filter, sum_by-cons}
use Rattle.ratio_core.specs.Rational.{Rational, rational_eq, zero_ℚ}
use Rattle.aff_core.specs.Address.{Address, address_cmp, address_total}
use Rattle.aff_core.specs.Function.{gathered}
use Rattle.aff_core.specs.FunctionLaws.{entries_rise, terms-function_of}
use Rattle.aff_core.specs.Terms.{is_nonzero}
use Rattle.named_aff.specs.Distinct.{HasDistinctNames}
use Rattle.named_aff.specs.declared.aff.NamedAff.{NamedAff}
use Rattle.named_aff.specs.declared.terms.NamedTerm.{NamedTerm}
use Rattle.user_model.specs.Consistent.{IsConsistent}
use Rattle.user_model.specs.Edited.{affine}
use Rattle.user_model.specs.Functions.{names_of, term_count}
use Rattle.user_model.specs.Model.{ModelValue, address_named}
use Rattle.user_model.specs.Refusals.{has_variable_named}
use Rattle.model_laws.specs.DistinctTerms.{apart}
use Rattle.map_laws.specs.MadeLaws.{entries_empty}
use Rattle.map_laws.specs.SumLaws.{sum_inserted}

module _ (model : ModelValue) (c : IsConsistent model) where
  abbrev unknown : List ℕ → Bool
  unknown name = not (has_variable_named model name)

  abbrev names : List NamedTerm → List (List ℕ)
  names ts = map (λ t. t.variable) ts

  abbrev located : List NamedTerm → List (Address × Rational)
  located ts = map (λ t. (address_named model t.variable, t.coefficient)) ts

  none_found : (x : List ℕ) (ts : List NamedTerm) → has_variable_named model x ≡ true
      → list_any unknown (names ts) ≡ false → AllByRecursion (λ y. bytes_eq x y ≡ false) (names ts)
      → finite.find address_cmp (address_named model x) (located ts) ≡ None
  none_found x [] there known others = refl
  none_found x (t ∷ ts) there known others =
      let parts = or_parts (unknown t.variable) (list_any unknown (names ts)) known in
      ap (λ b. cond b (Some t.coefficient) (finite.find address_cmp (address_named model x)
      (located ts))) (apart model c x t.variable there
      (not-false (has_variable_named model t.variable) parts.0) others.0)
      ∙ none_found x ts there parts.1 others.1

  counted : (ts : List NamedTerm) → list_any unknown (names ts) ≡ false → HasDistinctNames ts
      → count_by is_nonzero (finite.entries (finite.from_entries {R = address_cmp} (located ts)))
      ≡ count_by (λ t. not (rational_eq t.coefficient zero_ℚ)) ts
  counted [] known distinct = ap (count_by is_nonzero) (entries_empty {X = Rational} address_cmp)
  counted (t ∷ ts) known distinct =
      let parts = or_parts (unknown t.variable) (list_any unknown (names ts)) known in
      let others = IsDistinct-head bytes_eq t.variable (names ts) distinct in
      let rest = counted ts parts.1 (IsDistinct-tail bytes_eq t.variable (names ts) distinct) in
      let none : finite.get (finite.from_entries {R = address_cmp} (located ts))
      (address_named model t.variable) ≡ None = finite.get-from_entries address_total (located
      ts) (address_named model t.variable) ∙ none_found t.variable ts (not-false
      (has_variable_named model t.variable) parts.0) parts.1 others in
      sum_inserted address_total (λ e. cond (is_nonzero e) 1 0)
      (finite.from_entries {R = address_cmp} (located ts)) (address_named model t.variable)
      t.coefficient none
      ∙ (ap (λ n. cond (not (rational_eq t.coefficient zero_ℚ)) 1 0 + n) rest
      ∙ sym (sum_by-cons (λ t. cond (not (rational_eq t.coefficient zero_ℚ)) 1 0) t ts))

  -- those of its terms that are not zero
  pub named_terms-is : (f : NamedAff) → list_any unknown (names_of f) ≡ false
      → HasDistinctNames f.terms → count_by (λ t. not (rational_eq t.coefficient zero_ℚ)) f.terms
      ≡ term_count (affine model f)
  unfolding gathered
  named_terms-is f known distinct =
      let all = finite.from_entries {R = address_cmp} (located f.terms) in
      sym (ap length (terms-function_of (finite.entries all) f.constant (entries_rise all))
      ∙ (length-filter is_nonzero (finite.entries all) ∙ counted f.terms known distinct))
