-- Values and slopes by one notion: a function at a point or along a ray. What is proved of it is
-- proved of both.
use Rattle.std.specs.Prelude.{◌≡◌, List, [], ◌∷◌, refl}
use Rattle.std.proofs.Common.{sym, ◌∙◌, ap, ap₂}
use Rattle.ratio_core.specs.Rational.{Rational, one_ℚ, zero_ℚ, ◌*ℚ◌, ◌+ℚ◌}
use Rattle.rational_laws.specs.Field.{*ℚ-+ℚ, *ℚ-zero, one-*ℚ, zero-*ℚ, zero-+ℚ, +ℚ-zero, +ℚ_inner_comm}
use Rattle.rational_laws.specs.Ring.{as_expression, by_ring, ring₄, ring₅}
use Rattle.aff_core.specs.Address.{Address}
use Rattle.aff_core.specs.Arithmetic.{IsComposition, IsSum}
use Rattle.aff_core.specs.Function.{Function, coefficient, evaluated, slope, terms_of, value_of}
use Rattle.aff_core.specs.Terms.{linear}
use Rattle.linear_laws.specs.SlopeLaws.{slope_agreeing, slope_composed, slope_sum}

pub evaluated_value : (f : Function) (x : Address → Rational) → evaluated one_ℚ f x ≡ value_of f x
unfolding value_of
evaluated_value f x = ap (λ q. q +ℚ slope f x) (one-*ℚ f.constant)

pub evaluated_slope : (f : Function) (x : Address → Rational) → evaluated zero_ℚ f x ≡ slope f x
evaluated_slope f x = ap (λ q. q +ℚ slope f x) (zero-*ℚ f.constant) ∙ zero-+ℚ (slope f x)

-- ---- weighted sums are linear in the point

pub linear-+ℚ : (ts : List (Address × Rational)) (x y : Address → Rational)
    → linear ts (λ u. x u +ℚ y u) ≡ linear ts x +ℚ linear ts y
unfolding linear
linear-+ℚ [] x y = sym (+ℚ-zero zero_ℚ)
linear-+ℚ (t ∷ ts) x y =
    ap₂ ◌+ℚ◌ (*ℚ-+ℚ t.1 (x t.0) (y t.0)) (linear-+ℚ ts x y)
    ∙ +ℚ_inner_comm (t.1 *ℚ x t.0) (t.1 *ℚ y t.0) (linear ts x) (linear ts y)

turned : (a b c d : Rational) → a *ℚ (c *ℚ b) +ℚ c *ℚ d ≡ c *ℚ (a *ℚ b +ℚ d)
turned = ring₄ _ (λ ρ. simp as_expression (by_ring ρ _ _ refl))

pub linear-*ℚ : (c : Rational) (ts : List (Address × Rational)) (x : Address → Rational)
    → linear ts (λ u. c *ℚ x u) ≡ c *ℚ linear ts x
unfolding linear
linear-*ℚ c [] x = sym (*ℚ-zero c)
linear-*ℚ c (t ∷ ts) x = ap (λ q. t.1 *ℚ (c *ℚ x t.0) +ℚ q) (linear-*ℚ c ts x)
    ∙ turned t.1 (x t.0) c (linear ts x)

-- ---- the laws

module _ (one : Rational) where
  pub evaluated_agreeing : (f : Function) (x y : Address → Rational)
      → ((v : Address) → ¬ (coefficient f v ≡ zero_ℚ) → x v ≡ y v)
      → evaluated one f x ≡ evaluated one f y
  evaluated_agreeing f x y h = ap (λ q. one *ℚ f.constant +ℚ q) (slope_agreeing f x y h)

  regrouped_sum : (o a b s t : Rational)
      → o *ℚ (a +ℚ b) +ℚ (s +ℚ t) ≡ (o *ℚ a +ℚ s) +ℚ (o *ℚ b +ℚ t)
  regrouped_sum = ring₅ _ (λ ρ. simp as_expression (by_ring ρ _ _ refl))

  pub evaluated_sum : (f g h : Function) → IsSum f g h → (x : Address → Rational)
      → evaluated one h x ≡ evaluated one f x +ℚ evaluated one g x
  evaluated_sum f g h s x =
      ap₂ ◌+ℚ◌ (ap (λ q. one *ℚ q) s.constant) (slope_sum f g h s x)
      ∙ regrouped_sum one f.constant g.constant (slope f x) (slope g x)

  regrouped_composed : (o a b s : Rational) → o *ℚ (a +ℚ b) +ℚ s ≡ o *ℚ a +ℚ (o *ℚ b +ℚ s)
  regrouped_composed = ring₄ _ (λ ρ. simp as_expression (by_ring ρ _ _ refl))

  -- the function at the values of the expressions; its adjoint is the clause `coefficients` of
  -- `IsComposition`
  pub evaluated_composed : (e : Address → Function) (f h : Function) → IsComposition e f h
      → (x : Address → Rational) → evaluated one h x ≡ evaluated one f (λ u. evaluated one (e u) x)
  unfolding value_of
  evaluated_composed e f h s x =
      ap₂ ◌+ℚ◌ (ap (λ q. one *ℚ q) s.constant) (slope_composed e f h s x)
      ∙ regrouped_composed one f.constant (slope f (λ u. (e u).constant))
      (slope f (λ u. slope (e u) x))
      ∙ ap (λ q. one *ℚ f.constant
      +ℚ q) (ap (λ q. q +ℚ slope f (λ u. slope (e u) x))
      (sym (linear-*ℚ one (terms_of f) (λ u. (e u).constant)))
      ∙ sym (linear-+ℚ (terms_of f) (λ u. one *ℚ (e u).constant) (λ u. slope (e u) x)))
