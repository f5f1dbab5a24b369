-- How many terms a function has with another coefficient, and functions that are changed at a
-- place.
use Rattle.std.specs.Prelude.{◌≡◌, ◌≢◌, ℕ, zero, suc, ◌+◌, ◌-◌, ◌≤◌, Bool, true, false, cond, List, [], ◌∷◌, map, length, slice_get, sum, Some, is_some, refl}
use Rattle.std.specs.FinMap as finite
use Rattle.std.proofs.Common.{arith, sym, ap, subst, ◌∙◌}
use Rattle.std.proofs.lemmas.Bool.{both_ways}
use Rattle.std.proofs.lemmas.Option.{same_Some}
use Rattle.std.proofs.lemmas.List.Sums.{sum_by-cons}
use Rattle.ratio_core.specs.Rational.{Rational, rational_eq, zero_ℚ}
use Rattle.aff_core.specs.Address.{Address, address_cmp, address_total}
use Rattle.aff_core.specs.Function.{Function, with_coefficient}
use Rattle.aff_core.specs.FunctionLaws.{terms-with_coefficient}
use Rattle.aff_core.specs.KeyOrder.{address_order}
use Rattle.user_model.specs.Edited.{changed_at}
use Rattle.user_model.specs.Functions.{term_count}

not_empty : (at : Address) (es : List (Address × Rational))
    → is_some (finite.find address_cmp at es) ≡ true → 1 ≤ length es
not_empty at [] e = absurd (both_ways false refl e)
not_empty at (e ∷ es) is = omega arith

module _ (f : Function) (at : Address) where
  abbrev mentioned : Bool
  mentioned = finite.contains_key f.terms at

  -- a term that is there is one of the terms
  pub mentioned_counts : cond mentioned 1 0 ≤ term_count f
  mentioned_counts = by (finite.contains_key f.terms at) refl
    where
      by : (b : Bool) → finite.contains_key f.terms at ≡ b → cond b 1 0 ≤ term_count f
      by false e = omega arith
      by true e =
          not_empty at (finite.entries f.terms) (ap is_some (sym (finite.get-entries f.terms at))
          ∙ e)

  removed : (b : Bool) (n : ℕ) → cond b (n - 1) n ≡ n - cond b 1 0 + 0
  removed true n = omega arith
  removed false n = omega arith

  inserted : (b : Bool) (n : ℕ) → cond b 1 0 ≤ n → cond b n (n + 1) ≡ n - cond b 1 0 + 1
  inserted true n le = omega arith
  inserted false n le = omega arith

  pub terms_with-is : (value : Rational) → term_count (with_coefficient f at value)
      ≡ term_count f - cond mentioned 1 0 + cond (rational_eq value zero_ℚ) 0 1
  terms_with-is value =
      ap (λ m. length (finite.entries m)) (terms-with_coefficient address_order f at value)
      ∙ by (rational_eq value zero_ℚ)
    where
      by : (b : Bool)
          → length (finite.entries (cond b (finite.remove f.terms at)
          (finite.insert f.terms at value))) ≡ term_count f - cond mentioned 1 0 + cond b 0 1
      by true =
          sym (finite.len-entries (finite.remove f.terms at))
          ∙ (finite.len-remove address_total f.terms at
          ∙ (ap (λ n. cond mentioned (n - 1) n) (finite.len-entries f.terms)
          ∙ removed mentioned (term_count f)))
      by false =
          sym (finite.len-entries (finite.insert f.terms at value))
          ∙ (finite.len-insert address_total f.terms at value
          ∙ (ap (λ n. cond mentioned n (n + 1)) (finite.len-entries f.terms)
          ∙ inserted mentioned (term_count f) mentioned_counts))

-- ---- changes at a place

module _ {X : Type 0} (h : X → X) where
  pub length-changed_at : (i : ℕ) (xs : List X) → length (changed_at i h xs) ≡ length xs
  length-changed_at i [] = refl
  length-changed_at zero (x ∷ xs) = refl
  length-changed_at (suc i) (x ∷ xs) = ap suc (length-changed_at i xs)

  -- what stands at each place
  pub changed_here : (i : ℕ) (xs : List X) (x : X) → slice_get xs i ≡ Some x
      → slice_get (changed_at i h xs) i ≡ Some (h x)
  changed_here i [] x e = cc
  changed_here zero (y ∷ xs) x e = ap (λ z. Some (h z)) (same_Some y x e)
  changed_here (suc i) (y ∷ xs) x e = changed_here i xs x e

  pub changed_elsewhere : (i k : ℕ) (xs : List X) → k ≢ i → slice_get (changed_at i h xs) k
      ≡ slice_get xs k
  changed_elsewhere i k [] ne = refl
  changed_elsewhere zero zero (y ∷ xs) ne = absurd (ne refl)
  changed_elsewhere zero (suc k) (y ∷ xs) ne = refl
  changed_elsewhere (suc i) zero (y ∷ xs) ne = refl
  changed_elsewhere (suc i) (suc k) (y ∷ xs) ne = changed_elsewhere i k xs (λ e. ne (ap suc e))

-- the sum with one function changed
pub sum-changed_at : (h : Function → Function) (i : ℕ) (fs : List Function) (f : Function)
    → slice_get fs i ≡ Some f → sum (map term_count (changed_at i h fs)) + term_count f
    ≡ sum (map term_count fs) + term_count (h f)
sum-changed_at h i [] f e = cc
sum-changed_at h zero (g ∷ fs) f e =
    let same : g ≡ f = same_Some g f e in
    subst (λ g. sum (map term_count (h g ∷ fs)) + term_count f ≡ sum (map term_count (g ∷ fs))
    + term_count (h f)) (sym same) (omega (
      arith,
      sum_by-cons (λ x. x) (term_count (h f))
          (map term_count fs),
      sum_by-cons (λ x. x) (term_count f) (map term_count fs),
    ))
sum-changed_at h (suc i) (g ∷ fs) f e =
    omega (
      arith,
      sum-changed_at h i fs f e,
      sum_by-cons (λ x. x) (term_count g)
          (map term_count (changed_at i h fs)),
      sum_by-cons (λ x. x) (term_count g)
          (map term_count fs),
    )
