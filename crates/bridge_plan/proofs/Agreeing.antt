-- Expressions that agree on the variables that a function mentions compose alike.
use Rattle.std.specs.Prelude.{◌≡◌, true, ◌&&◌, IsTrue, List, [], ◌∷◌, ◌++◌, All, Result, refl}
use Rattle.std.proofs.Common.{ap, ap₂, sym, subst, ◌∙◌}
use Rattle.std.specs.FinMap as finite
use Rattle.std.specs.List.{list_all}
use Rattle.std.proofs.lemmas.List.Elements.{All-head, All-tail}
use Rattle.ratio_core.specs.Rational.{Rational, ◌+ℚ◌, ◌*ℚ◌}
use Rattle.ratio_core.specs.declared.fault.NumberFault.{NumberFault}
use Rattle.ratio_core.specs.Answers.{ExactWhere}
use Rattle.ratio_core.specs.AnsweredLaws.{exact_as}
use Rattle.aff_core.specs.Address.{Address, address_cmp}
use Rattle.aff_core.specs.Arithmetic.{IsComposition, SubstitutionFits, added_terms, composed, substituted}
use Rattle.aff_core.specs.Function.{Function, function_of, terms_of, value_of}
use Rattle.aff_core.specs.Terms.{linear, times}
use Rattle.fresh_bridging.specs.FitTests.{step_fits, substitution_fits, substitution_fits_Decides, terms_fit, times_fit, value_fits}

abbrev Terms : Type 0
Terms = List (Address × Rational)

module _ (e g : Address → Function) where
  abbrev pub Agree : Terms → Type 0
  Agree ts = All (λ t. e t.0 ≡ g t.0) ts

  value_alike : (sum : Rational) (ts : Terms) → Agree ts
      → value_fits sum ts (λ u. (e u).constant) ≡ value_fits sum ts (λ u. (g u).constant)
  unfolding value_fits
  value_alike sum [] h = refl
  value_alike sum (t ∷ ts) h =
      let first = ap (λ (f : Function). f.constant) (All-head (λ s. e s.0 ≡ g s.0) t ts h) in
      ap₂ ◌&&◌ (ap (step_fits sum t.1) first)
      (ap (λ c. value_fits (sum +ℚ (t.1 *ℚ c)) ts (λ u. (e u).constant)) first
      ∙ value_alike (sum +ℚ (t.1 *ℚ (g t.0).constant)) ts (All-tail (λ s. e s.0 ≡ g s.0) t ts h))

  products_alike : (ts : Terms) → Agree ts
      → list_all (λ t. times_fit t.1 (terms_of (e t.0))) ts
      ≡ list_all (λ t. times_fit t.1 (terms_of (g t.0))) ts
  products_alike [] h = refl
  products_alike (t ∷ ts) h =
      ap₂ ◌&&◌ (ap (λ f. times_fit t.1 (terms_of f)) (All-head (λ s. e s.0 ≡ g s.0) t ts h))
      (products_alike ts (All-tail (λ s. e s.0 ≡ g s.0) t ts h))

  substituted_alike : (ts : Terms) → Agree ts → substituted e ts ≡ substituted g ts
  unfolding substituted
  substituted_alike [] h = refl
  substituted_alike (t ∷ ts) h =
      ap₂ (λ f rest. times t.1 (terms_of f) ++ rest) (All-head (λ s. e s.0 ≡ g s.0) t ts h)
      (substituted_alike ts (All-tail (λ s. e s.0 ≡ g s.0) t ts h))

  linear_alike : (ts : Terms) → Agree ts
      → linear ts (λ u. (e u).constant) ≡ linear ts (λ u. (g u).constant)
  unfolding linear
  linear_alike [] h = refl
  linear_alike (t ∷ ts) h =
      ap₂ (λ f rest. (t.1 *ℚ f.constant) +ℚ rest) (All-head (λ s. e s.0 ≡ g s.0) t ts h)
      (linear_alike ts (All-tail (λ s. e s.0 ≡ g s.0) t ts h))

  fits_alike : (f : Function) → Agree (terms_of f) → substitution_fits e f ≡ substitution_fits g f
  fits_alike f h =
      ap₂ ◌&&◌ (value_alike f.constant (terms_of f) h)
      (ap₂ ◌&&◌ (products_alike (terms_of f) h)
      (ap (terms_fit (finite.empty {R = address_cmp})) (substituted_alike (terms_of f) h)))

  composed_alike : (f : Function) → Agree (terms_of f) → composed e f ≡ composed g f
  unfolding composed value_of
  composed_alike f h =
      ap₂ (λ ts c. function_of (finite.entries (added_terms (finite.empty {R = address_cmp}) ts)) c)
      (substituted_alike (terms_of f) h)
      (ap (λ x. f.constant +ℚ x) (linear_alike (terms_of f) h))

  -- so an answer that is exact by the one is exact by the other
  pub exact_alike : (f : Function) (answer : Result Function NumberFault) → Agree (terms_of f)
      → ExactWhere answer (SubstitutionFits e f) (IsComposition e f)
      → ExactWhere answer (IsTrue (substitution_fits g f)) (λ made. made ≡ composed g f)
  exact_alike f answer h =
      exact_as answer (SubstitutionFits e f) (IsTrue (substitution_fits g f)) (IsComposition e f)
      (λ made. made ≡ composed g f)
      (λ k. subst (λ b. b ≡ true) (fits_alike f h) ((substitution_fits_Decides e f).1 k))
      (λ t. (substitution_fits_Decides e f).0 (subst (λ b. b ≡ true) (sym (fits_alike f h)) t))
      (λ made k. k.same ∙ composed_alike f h)
