-- Entries that stand alike for the variables that an item names are put in alike.
use Rattle.std.specs.Prelude.{◌≡◌, true, ◌&&◌, List, [], ◌∷◌, ◌++◌, All, map, slice_index_or, unwrap_or, refl}
use Rattle.std.proofs.Common.{ap, ap₂, sym, ◌∙◌}
use Rattle.std.specs.FinMap as finite
use Rattle.std.specs.List.{list_all}
use Rattle.std.proofs.lemmas.Cmp.{tied_itself}
use Rattle.std.proofs.lemmas.List.Elements.{All-cons, All-head, All-nil, All-tail, All-weaker}
use Rattle.std.proofs.lemmas.List.Sums.{AllPass-from_list_all}
use Rattle.map_laws.specs.EachLaws.{all_both, all_from_map, map_same_on}
use Rattle.map_laws.specs.EntryLaws.{find_at}
use Rattle.rational_laws.specs.Field.{one_not_zero}
use Rattle.rational_laws.specs.Tests.{nonzero_from_test}
use Rattle.ratio_core.specs.Rational.{Rational, zero_ℚ, ◌+ℚ◌, ◌*ℚ◌}
use Rattle.aff_core.specs.Address.{Address, address_cmp, address_total}
use Rattle.aff_core.specs.Arithmetic.{added_terms, composed, substituted}
use Rattle.aff_core.specs.Function.{Function, coefficient, function_of, terms_of, value_of, variable}
use Rattle.aff_core.specs.FunctionLaws.{coefficient-variable_same}
use Rattle.aff_core.specs.KeyOrder.{address_order}
use Rattle.aff_core.specs.Terms.{is_nonzero, linear, times}
use Rattle.bridge_face.specs.Law.{Miss, expressed}
use Rattle.item_core.specs.Item.{functions_of}
use Rattle.item_core.specs.declared.item.Body.{Body}
use Rattle.item_core.specs.declared.item.Body.TheVariants.{Group, Free, Plain, Affine, PlainVec, AffineVec, PlainObj, AffineObj}
use Rattle.item_core.specs.declared.item.Item.{Item}
use Rattle.fresh_bridging.specs.Entries.{Entry, expression_in, is_kept, objective_by, plain_or_affine, put_in, put_in_body, put_in_body_fits, put_in_fits, vector_by}
use Rattle.fresh_bridging.specs.FitTests.{step_fits, substitution_fits, terms_fit, times_fit, value_fits}
use Rattle.local_laws.specs.Stays.{AgreeAt, AgreeOn}

abbrev Terms : Type 0
Terms = List (Address × Rational)

-- ---- functions that agree on the variables of a function

module _ (e g : Address → Function) where
  abbrev pub AgreeOnTerms : Terms → Type 0
  AgreeOnTerms ts = All (λ t. e t.0 ≡ g t.0) ts

  value_alike : (sum : Rational) (ts : Terms) → AgreeOnTerms ts
      → value_fits sum ts (λ u. (e u).constant) ≡ value_fits sum ts (λ u. (g u).constant)
  unfolding value_fits
  value_alike sum [] h = refl
  value_alike sum (t ∷ ts) h =
      let first = ap (λ (f : Function). f.constant) (All-head (λ s. e s.0 ≡ g s.0) t ts h) in
      ap₂ ◌&&◌ (ap (step_fits sum t.1) first)
      (ap (λ c. value_fits (sum +ℚ (t.1 *ℚ c)) ts (λ u. (e u).constant)) first
      ∙ value_alike (sum +ℚ (t.1 *ℚ (g t.0).constant)) ts (All-tail (λ s. e s.0 ≡ g s.0) t ts h))

  products_alike : (ts : Terms) → AgreeOnTerms ts
      → list_all (λ t. times_fit t.1 (terms_of (e t.0))) ts
      ≡ list_all (λ t. times_fit t.1 (terms_of (g t.0))) ts
  products_alike [] h = refl
  products_alike (t ∷ ts) h =
      ap₂ ◌&&◌ (ap (λ f. times_fit t.1 (terms_of f)) (All-head (λ s. e s.0 ≡ g s.0) t ts h))
      (products_alike ts (All-tail (λ s. e s.0 ≡ g s.0) t ts h))

  substituted_alike : (ts : Terms) → AgreeOnTerms ts → substituted e ts ≡ substituted g ts
  unfolding substituted
  substituted_alike [] h = refl
  substituted_alike (t ∷ ts) h =
      ap₂ (λ f rest. times t.1 (terms_of f) ++ rest) (All-head (λ s. e s.0 ≡ g s.0) t ts h)
      (substituted_alike ts (All-tail (λ s. e s.0 ≡ g s.0) t ts h))

  linear_alike : (ts : Terms) → AgreeOnTerms ts
      → linear ts (λ u. (e u).constant) ≡ linear ts (λ u. (g u).constant)
  unfolding linear
  linear_alike [] h = refl
  linear_alike (t ∷ ts) h =
      ap₂ (λ f rest. (t.1 *ℚ f.constant) +ℚ rest) (All-head (λ s. e s.0 ≡ g s.0) t ts h)
      (linear_alike ts (All-tail (λ s. e s.0 ≡ g s.0) t ts h))

  pub fits_alike : (f : Function) → AgreeOnTerms (terms_of f)
      → substitution_fits e f ≡ substitution_fits g f
  fits_alike f h =
      ap₂ ◌&&◌ (value_alike f.constant (terms_of f) h)
      (ap₂ ◌&&◌ (products_alike (terms_of f) h)
      (ap (terms_fit (finite.empty {R = address_cmp})) (substituted_alike (terms_of f) h)))

  pub composed_alike : (f : Function) → AgreeOnTerms (terms_of f) → composed e f ≡ composed g f
  unfolding composed value_of
  composed_alike f h =
      ap₂ (λ ts c. function_of (finite.entries (added_terms (finite.empty {R = address_cmp}) ts)) c)
      (substituted_alike (terms_of f) h)
      (ap (λ x. f.constant +ℚ x) (linear_alike (terms_of f) h))

-- ---- the variables that a function names are those of its terms

pub each_named : (f : Function) → All (λ t. ¬ (coefficient f t.0 ≡ zero_ℚ)) (terms_of f)
each_named f =
    All-weaker (λ t. (coefficient f t.0 ≡ t.1) × (is_nonzero t ≡ true))
    (λ t. ¬ (coefficient f t.0 ≡ zero_ℚ))
    (λ t k e. nonzero_from_test t.1 k.1 (sym k.0 ∙ e)) (terms_of f)
    (all_both (λ t. coefficient f t.0 ≡ t.1) (λ t. is_nonzero t ≡ true) (terms_of f) each
    (AllPass-from_list_all is_nonzero (terms_of f) f.nonzero))
  where
    each : All (λ t. coefficient f t.0 ≡ t.1) (terms_of f)
    each = λ k d end.
        ap (λ o. unwrap_or o zero_ℚ)
        (finite.get-entries f.terms (slice_index_or (terms_of f) k d).0
        ∙ find_at address_total (slice_index_or (terms_of f) k d).0 (terms_of f) k d
        (finite.entries_sorted f.terms) end
        (tied_itself address_total (slice_index_or (terms_of f) k d).0))

-- what holds of each address that is not missed by functions holds of what each of them names
pub each_by : (P : Address → Type 0) (fs : List Function)
    → ((v : Address) → ¬ (Miss fs v) → P v)
    → All (λ f. (v : Address) → ¬ (coefficient f v ≡ zero_ℚ) → P v) fs
each_by P [] h = All-nil (λ f. (v : Address) → ¬ (coefficient f v ≡ zero_ℚ) → P v)
each_by P (f ∷ fs) h =
    All-cons (λ f. (v : Address) → ¬ (coefficient f v ≡ zero_ℚ) → P v) f fs
    (λ v n. h v (λ m. n (All-head (λ f. coefficient f v ≡ zero_ℚ) f fs m)))
    (each_by P fs (λ v n. h v (λ m. n (All-tail (λ f. coefficient f v ≡ zero_ℚ) f fs m))))

names_itself : (v : Address) → ¬ (coefficient (variable {R = address_cmp} v) v ≡ zero_ℚ)
names_itself v e = one_not_zero (sym (coefficient-variable_same address_order v) ∙ e)

-- ---- entries that stand alike for what a body names

module _ (es fs : List Entry) where
  abbrev NamesAgree : Function → Type 0
  NamesAgree f = (v : Address) → ¬ (coefficient f v ≡ zero_ℚ) → AgreeAt es fs v

  at_variable : (v : Address) → All NamesAgree (variable v ∷ []) → AgreeAt es fs v
  at_variable v h = All-head NamesAgree (variable v) [] h v (names_itself v)

  at_variables : (vs : List Address) → All NamesAgree (map variable vs)
      → map (expression_in es) vs ≡ map (expression_in fs) vs
  at_variables vs h =
      map_same_on (expression_in es) (expression_in fs) vs
      (All-weaker (λ v. NamesAgree (variable v)) (AgreeAt es fs) (λ v k. k v (names_itself v)) vs
      (all_from_map NamesAgree variable vs h))

  at_terms : (f : Function) → NamesAgree f
      → AgreeOnTerms (λ v. expressed (expression_in es v)) (λ v. expressed (expression_in fs v))
      (terms_of f)
  at_terms f h =
      All-weaker (λ t. ¬ (coefficient f t.0 ≡ zero_ℚ))
      (λ t. expressed (expression_in es t.0) ≡ expressed (expression_in fs t.0))
      (λ t n. ap expressed (h t.0 n)) (terms_of f) (each_named f)

  composed_same : (f : Function) → NamesAgree f
      → composed (λ v. expressed (expression_in es v)) f
      ≡ composed (λ v. expressed (expression_in fs v)) f
  composed_same f h =
      composed_alike (λ v. expressed (expression_in es v)) (λ v. expressed (expression_in fs v)) f
      (at_terms f h)

  fits_same : (f : Function) → NamesAgree f
      → substitution_fits (λ v. expressed (expression_in es v)) f
      ≡ substitution_fits (λ v. expressed (expression_in fs v)) f
  fits_same f h =
      fits_alike (λ v. expressed (expression_in es v)) (λ v. expressed (expression_in fs v)) f
      (at_terms f h)

  all_fit_same : (gs : List Function) → All NamesAgree gs
      → list_all (substitution_fits (λ v. expressed (expression_in es v))) gs
      ≡ list_all (substitution_fits (λ v. expressed (expression_in fs v))) gs
  all_fit_same [] h = refl
  all_fit_same (f ∷ gs) h =
      ap₂ ◌&&◌ (fits_same f (All-head NamesAgree f gs h))
      (all_fit_same gs (All-tail NamesAgree f gs h))

  by_names : (b : Body) → All NamesAgree (functions_of b) → put_in_body es b ≡ put_in_body fs b
  unfolding put_in_body
  by_names (Group set vars) h = refl
  by_names (Free vars) h = refl
  by_names (Plain var set) h = ap (λ e. plain_or_affine e set) (at_variable var h)
  by_names (Affine func set) h =
      ap (λ f. Affine f set) (composed_same func (All-head NamesAgree func [] h))
  by_names (PlainVec vars set) h =
      ap (λ xs. vector_by (list_all is_kept xs) xs set) (at_variables vars h)
  by_names (AffineVec funcs set) h =
      ap (λ gs. AffineVec gs set)
      (map_same_on (composed (λ v. expressed (expression_in es v)))
      (composed (λ v. expressed (expression_in fs v))) funcs
      (All-weaker NamesAgree
      (λ f. composed (λ v. expressed (expression_in es v)) f
      ≡ composed (λ v. expressed (expression_in fs v)) f)
      (λ f k. composed_same f k) funcs h))
  by_names (PlainObj sense var) h = ap (objective_by sense) (at_variable var h)
  by_names (AffineObj sense func) h =
      ap (AffineObj sense) (composed_same func (All-head NamesAgree func [] h))

  fits_by_names : (b : Body) → All NamesAgree (functions_of b)
      → put_in_body_fits es b ≡ put_in_body_fits fs b
  fits_by_names (Affine func set) h = fits_same func (All-head NamesAgree func [] h)
  fits_by_names (AffineVec funcs set) h = all_fit_same funcs h
  fits_by_names (AffineObj sense func) h = fits_same func (All-head NamesAgree func [] h)
  fits_by_names _ h = refl

  pub put_in_agreeing : (item : Item) → AgreeOn es fs item.body → put_in es item ≡ put_in fs item
  put_in_agreeing item h =
      ap (λ b. record item { body = b })
      (by_names item.body (each_by (AgreeAt es fs) (functions_of item.body) h))

  pub fits_agreeing : (item : Item) → AgreeOn es fs item.body → put_in_fits es item ≡ put_in_fits fs item
  fits_agreeing item h = fits_by_names item.body (each_by (AgreeAt es fs) (functions_of item.body) h)
