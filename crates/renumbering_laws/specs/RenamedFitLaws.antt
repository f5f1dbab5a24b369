-- What must fit in a sum or a composition is the same under other keys in the same order.
use Rattle.std.specs.Prelude.{◌≡◌, ◌&&◌, List, [], ◌∷◌, refl}
use Rattle.std.proofs.Common.{ap, ap₂, sym, ◌∙◌}
use Rattle.std.specs.FinMap as finite
use Rattle.std.specs.FinMap.{FinMap}
use Rattle.std.specs.List.{list_all}
use Rattle.std.specs.declared.cmp.Ordering.{Ordering}
use Rattle.ratio_core.specs.Rational.{Rational, fits, sum_fits, ◌*ℚ◌, ◌+ℚ◌}
use Rattle.aff_core.specs.Arithmetic.{added_at, substituted}
use Rattle.aff_core.specs.Function.{FunctionOver, terms_of}
use Rattle.aff_core.specs.KeyOrder.{IsKeyOrder}
use Rattle.fresh_bridging.specs.FitTests.{meets_fit, plus_fits, step_fits, substitution_fits, terms_fit, times_fit, value_fits}
use Rattle.renumbering_laws.specs.RenamedFunctions.{AreRenamed, added_at-renamed, constant-renamed, constants-renamed, map-renamed, renamed_function, substituted-renamed, terms-renamed}
use Rattle.renumbering_laws.specs.RenamedMaps.{KeepsOrder, empty-renamed, get-renamed, renamed_entries, renamed_map}

module _ {K : Type 0} (σ : K → K) where
  value_fits-renamed : (sum : Rational) (ts : List (K × Rational)) (x y : K → Rational)
      → ((k : K) → y (σ k) ≡ x k) → value_fits sum (renamed_entries σ ts) y ≡ value_fits sum ts x
  unfolding value_fits
  value_fits-renamed sum [] x y same = refl
  value_fits-renamed sum (t ∷ ts) x y same =
      (λ i. step_fits sum t.1 (same t.0 i)
      && value_fits (sum +ℚ (t.1 *ℚ same t.0 i)) (renamed_entries σ ts) y)
      ∙ ap (λ b. step_fits sum t.1 (x t.0) && b)
      (value_fits-renamed (sum +ℚ (t.1 *ℚ x t.0)) ts x y same)

  times_fit-renamed : (c : Rational) (ts : List (K × Rational))
      → times_fit c (renamed_entries σ ts) ≡ times_fit c ts
  times_fit-renamed c [] = refl
  times_fit-renamed c (t ∷ ts) = ap (λ b. fits (c *ℚ t.1) && b) (times_fit-renamed c ts)

module _ {K : Type 0} {R : K → K → Ordering} (o : IsKeyOrder R) (σ : K → K)
    (keeps : KeepsOrder R σ) where
  terms_fit-renamed : (m : FinMap R Rational) (ts : List (K × Rational))
      → terms_fit (renamed_map σ m) (renamed_entries σ ts) ≡ terms_fit m ts
  unfolding terms_fit
  terms_fit-renamed m [] = refl
  terms_fit-renamed m (t ∷ ts) =
      (λ i. meets_fit (get-renamed σ keeps m t.0 i) t.1
      && terms_fit (added_at-renamed o σ keeps m t.0 t.1 i) (renamed_entries σ ts))
      ∙ ap (λ b. meets_fit (finite.get m t.0) t.1 && b) (terms_fit-renamed (added_at m t.0 t.1) ts)

  pub plus_fits-renamed : (f g : FunctionOver R)
      → plus_fits (renamed_function σ f) (renamed_function σ g) ≡ plus_fits f g
  plus_fits-renamed f g =
      (λ i. sum_fits (constant-renamed σ keeps f i) (constant-renamed σ keeps g i)
      && terms_fit (map-renamed σ keeps f i) (terms-renamed σ keeps g i))
      ∙ ap (λ b. sum_fits f.constant g.constant && b) (terms_fit-renamed f.terms (terms_of g))

  module _ (e d : K → FunctionOver R) (same : AreRenamed o σ keeps e d) where
    products_fit-renamed : (ts : List (K × Rational))
        → list_all (λ t. times_fit t.1 (terms_of (d t.0))) (renamed_entries σ ts)
        ≡ list_all (λ t. times_fit t.1 (terms_of (e t.0))) ts
    products_fit-renamed [] = refl
    products_fit-renamed (t ∷ ts) =
        ap₂ (λ a b. a && b)
        (ap (λ f. times_fit t.1 (terms_of f)) (same t.0)
        ∙ ap (times_fit t.1) (terms-renamed σ keeps (e t.0))
        ∙ times_fit-renamed σ t.1 (terms_of (e t.0)))
        (products_fit-renamed ts)

    pub substitution_fits-renamed : (f : FunctionOver R)
        → substitution_fits d (renamed_function σ f) ≡ substitution_fits e f
    substitution_fits-renamed f =
        (λ i. value_fits (constant-renamed σ keeps f i) (terms-renamed σ keeps f i)
        (λ u. (d u).constant)
        && (list_all (λ t. times_fit t.1 (terms_of (d t.0))) (terms-renamed σ keeps f i)
        && terms_fit (finite.empty {R = R}) (substituted d (terms-renamed σ keeps f i))))
        ∙ (λ i. value_fits-renamed σ f.constant (terms_of f) (λ u. (e u).constant)
        (λ u. (d u).constant) (constants-renamed o σ keeps e d same) i
        && (products_fit-renamed (terms_of f) i
        && terms_fit (sym (empty-renamed {X = Rational} {R = R} σ keeps) i)
        (substituted-renamed o σ keeps e d same (terms_of f) i)))
        ∙ ap (λ b. value_fits f.constant (terms_of f) (λ u. (e u).constant)
        && (list_all (λ t. times_fit t.1 (terms_of (e t.0))) (terms_of f) && b))
        (terms_fit-renamed finite.empty (substituted e (terms_of f)))
