-- Terms of distinct variables that stand have distinct addresses.
use Rattle.std.specs.Prelude.{◌≡◌, ℕ, true, false, List, [], ◌∷◌, map, Some, unwrap_or}
use Rattle.std.specs.List.{AllByRecursion, IsDistinct, list_any}
use Rattle.std.specs.Str.{bytes_eq}
use Rattle.std.proofs.Common.{sym, ap, subst, inl, inr, ◌∙◌}
use Rattle.std.proofs.lemmas.Bool.{both_ways, cases_Bool, not-false, or_parts}
use Rattle.std.proofs.lemmas.Option.{same_Some}
use Rattle.std.proofs.lemmas.Map.Keys.{IsDistinct-cons, IsDistinct-head, IsDistinct-tail}
use Rattle.std.proofs.lemmas.Slice.Eq.{bytes_eq-Decides}
use Rattle.numbered_list.specs.Numbered as numbered
use Rattle.ratio_core.specs.Rational.{Rational}
use Rattle.aff_core.specs.Address.{Address, address_cmp, address_eq, address_eq-Decides}
use Rattle.aff_core.specs.Rising.{HasDistinctKeys}
use Rattle.named_aff.specs.Distinct.{HasDistinctNames}
use Rattle.named_aff.specs.declared.terms.NamedTerm.{NamedTerm}
use Rattle.user_model.specs.Consistent.{IsConsistent, variable_number}
use Rattle.user_model.specs.Model.{ModelValue, address_named, variable_named, variables}
use Rattle.user_model.specs.Refusals.{has_variable_named}
use Rattle.model_laws.specs.Found.{something, stands_found}
use Rattle.model_laws.specs.Located.{variable_of_name}
use Rattle.model_laws.specs.Needed.{unknown}

module _ (model : ModelValue) (c : IsConsistent model) where
  -- names of one number are one name
  one_name : (x y : List ℕ) (n m : ℕ) → variable_named model x ≡ Some n
      → variable_named model y ≡ Some m → n ≡ m → x ≡ y
  one_name x y n m ex ey e =
      let v = variable_of_name model x n ex in
      let w = variable_of_name model y m ey in
      let numbers : w.0.number ≡ v.0.number = w.2 ∙ (sym e ∙ sym v.2) in
      let found : numbered.find variable_number v.0.number (variables model) ≡ Some w.0 = subst
      (λ k. numbered.find variable_number k (variables model) ≡ Some w.0) numbers
      (stands_found variable_number (variables model) w.0 c.variables_rise w.1) in
      let same : v.0 ≡ w.0 = same_Some v.0 w.0 (sym
      (stands_found variable_number (variables model) v.0 c.variables_rise v.1) ∙ found) in
      sym v.3 ∙ (ap (λ v. v.name) same ∙ w.3)

  -- variables with different names have different addresses
  pub apart : (x y : List ℕ) → has_variable_named model x ≡ true → has_variable_named model y ≡ true
      → bytes_eq x y ≡ false → address_eq (address_named model x) (address_named model y) ≡ false
  apart x y there too other =
      let v = something (variable_named model x) there in
      let w = something (variable_named model y) too in
      elim (cases_Bool (address_eq (address_named model x) (address_named model y))) [
        | inl same ↦
            let decides = address_eq-Decides (address_named model x) (address_named model y) in
            let number : unwrap_or (variable_named model x) 0
            ≡ unwrap_or (variable_named model y) 0 = ap (λ a. a.number) (decides.0 same) in
            let numbers : v.0 ≡ w.0 = sym (ap (λ o. unwrap_or o 0) v.1)
            ∙ (number ∙ ap (λ o. unwrap_or o 0) w.1) in
            absurd (both_ways (bytes_eq x y) other ((bytes_eq-Decides x y).1
            (one_name x y v.0 w.0 v.1 w.1 numbers)))
        | inr e ↦ e
      ]

  abbrev pub located_terms : List NamedTerm → List (Address × Rational)
  located_terms ts = map (λ t. (address_named model t.variable, t.coefficient)) ts

  others_apart : (x : List ℕ) (ts : List NamedTerm) → has_variable_named model x ≡ true
      → list_any (unknown model) (map (λ t. t.variable) ts) ≡ false
      → AllByRecursion (λ y. bytes_eq x y ≡ false) (map (λ t. t.variable) ts)
      → AllByRecursion (λ at. address_eq (address_named model x) at ≡ false)
      (map (λ e. e.0) (located_terms ts))
  others_apart x [] there known others = tt
  others_apart x (t ∷ ts) there known others =
      let parts = or_parts (unknown model t.variable)
      (list_any (unknown model) (map (λ t. t.variable) ts)) known in (
        apart x t.variable there (not-false (has_variable_named model t.variable) parts.0) others.0,
        others_apart x ts there parts.1 others.1,
      )

  -- so they can be gathered
  pub distinct_terms : (ts : List NamedTerm)
      → list_any (unknown model) (map (λ t. t.variable) ts) ≡ false → HasDistinctNames ts
      → HasDistinctKeys address_cmp (located_terms ts)
  unfolding IsDistinct
  distinct_terms [] known distinct = tt
  distinct_terms (t ∷ ts) known distinct =
      let parts = or_parts (unknown model t.variable)
      (list_any (unknown model) (map (λ t. t.variable) ts)) known in
      IsDistinct-cons address_eq (address_named model t.variable)
      (map (λ e. e.0) (located_terms ts)) (others_apart t.variable ts
      (not-false (has_variable_named model t.variable) parts.0) parts.1
      (IsDistinct-head bytes_eq t.variable (map (λ t. t.variable) ts) distinct))
      (distinct_terms ts parts.1 (IsDistinct-tail bytes_eq t.variable (map (λ t. t.variable) ts)
      distinct))
