-- The slope along a point that is spread over distinct addresses: the product of the coefficients
-- with the numbers.
use Rattle.std.specs.Prelude.{◌≡◌, Bool, true, false, cond, List, [], ◌∷◌, length, map, refl}
use Rattle.std.specs.Cmp.{eq_by_cmp_equiv}
use Rattle.std.specs.List.{AllByRecursion, IsDistinct}
use Rattle.std.specs.Ordering.{eq_by_cmp}
use Rattle.std.proofs.Common.{sym, ◌∙◌, ap, ap₂, arith}
use Rattle.std.proofs.lemmas.Map.Keys.{IsDistinct-head, IsDistinct-tail}
use Rattle.ratio_core.specs.Rational.{Rational, one_ℚ, zero_ℚ, ◌*ℚ◌, ◌+ℚ◌}
use Rattle.rational_laws.specs.Dot.{dot}
use Rattle.rational_laws.specs.Field.{*ℚ-one, *ℚ-zero, *ℚ_comm, +ℚ-zero, zero-+ℚ}
use Rattle.aff_core.specs.Address.{Address, address_cmp, address_eq, address_eq-Decides, address_total}
use Rattle.aff_core.specs.Function.{Function, coefficient, slope, terms_of}
use Rattle.aff_core.specs.Points.{spread, unit}
use Rattle.aff_core.specs.Terms.{linear}
use Rattle.linear_laws.specs.EvaluationLaws.{linear-*ℚ, linear-+ℚ}
use Rattle.linear_laws.specs.SlopeLaws.{coefficient_by_unit, slope_agreeing}

-- a point is 0 elsewhere
elsewhere : (a : Address) (us : List Address) (v : List Rational)
    → AllByRecursion (λ u. address_eq a u ≡ false) us → spread us v a ≡ zero_ℚ
elsewhere a [] v h = refl
elsewhere a (u ∷ us) [] h = refl
elsewhere a (u ∷ us) (q ∷ v) h = ap (λ b. cond b q (spread us v a)) h.0 ∙ elsewhere a us v h.1

-- the first number at its address, added to what the others are
first_added : (a : Address) (q : Rational) (us : List Address) (v : List Rational)
    → spread us v a ≡ zero_ℚ → (u : Address)
    → spread (a ∷ us) (q ∷ v) u ≡ q *ℚ unit a u +ℚ spread us v u
first_added a q us v z u = by (address_eq u a) refl
  where
    flipped : eq_by_cmp address_cmp a u ≡ address_eq u a
    flipped = (eq_by_cmp_equiv address_total).symm a u

    by : (b : Bool) → address_eq u a ≡ b
        → cond b q (spread us v u) ≡ q *ℚ unit a u +ℚ spread us v u
    by true e =
        sym (+ℚ-zero q)
        ∙ ap₂ ◌+ℚ◌ (sym (*ℚ-one q) ∙ ap (λ b. q *ℚ cond b one_ℚ zero_ℚ) (sym (flipped ∙ e)))
        (sym z ∙ ap (spread us v) (sym ((address_eq-Decides u a).0 e)))
    by false e =
        sym (zero-+ℚ (spread us v u))
        ∙ ap (λ s. s +ℚ spread us v u)
        (sym (*ℚ-zero q) ∙ ap (λ b. q *ℚ cond b one_ℚ zero_ℚ) (sym (flipped ∙ e)))

linear_zero : (ts : List (Address × Rational)) → linear ts (λ _. zero_ℚ) ≡ zero_ℚ
unfolding linear
linear_zero [] = refl
linear_zero (t ∷ ts) = ap₂ ◌+ℚ◌ (*ℚ-zero t.1) (linear_zero ts) ∙ +ℚ-zero zero_ℚ

pub slope_along : (f : Function) (us : List Address) (v : List Rational)
    → IsDistinct address_eq us → length us ≡ length v
    → slope f (spread us v) ≡ dot (map (coefficient f) us) v
slope_along f [] [] d n = linear_zero (terms_of f)
slope_along f [] (q ∷ v) d n = absurd (omega (arith, n))
slope_along f (a ∷ us) [] d n = absurd (omega (arith, n))
slope_along f (a ∷ us) (q ∷ v) d n =
    let apart = elsewhere a us v (IsDistinct-head address_eq a us d) in
    slope_agreeing f (spread (a ∷ us) (q ∷ v)) (λ u. q *ℚ unit a u +ℚ spread us v u)
    (λ u _. first_added a q us v apart u)
    ∙ linear-+ℚ (terms_of f) (λ u. q *ℚ unit a u) (spread us v)
    ∙ ap₂ ◌+ℚ◌
    (linear-*ℚ q (terms_of f) (unit a) ∙ ap (λ s. q *ℚ s) (coefficient_by_unit f a)
    ∙ *ℚ_comm q (coefficient f a))
    (slope_along f us v (IsDistinct-tail address_eq a us d) (omega (arith, n)))
