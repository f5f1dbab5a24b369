-- The dual of a cone is exactly what has no negative product with a vector of the cone, and is a
-- cone itself.
use Rattle.std.specs.Prelude.{◌≡◌, ◌↔◌, ℕ, false, List, length, refl}
use Rattle.std.proofs.Common.{◌∙◌, subst, true≢false}
use Rattle.ratio_core.specs.Rational.{Rational, one_ℚ, zero_ℚ, ◌≤ℚ◌}
use Rattle.rational_laws.specs.Dot.{dot}
use Rattle.rational_laws.specs.Order.{nonpos_neg, ≤ℚ_refl}
use Rattle.set_core.specs.declared.set.Set.{Set}
use Rattle.set_core.specs.declared.set.Set.TheVariants.{LessThan, GreaterThan, EqualTo, Interval, Reals, Zeros, Nonnegatives, Nonpositives, NormInfinityCone, NormOneCone}
use Rattle.set_core.specs.Membership.{Dual, In, dual_of, low_of}
use Rattle.set_core.specs.Shapes.{IsSetOf, is_scalar}
use Rattle.set_laws.specs.Least.{low_least}
use Rattle.set_laws.specs.Units.{each_dominated, nonneg_units, nonpos_units, one_nonneg, sum_dominated, zero_units}

-- w has a nonnegative product with each vector of its length in the set
abbrev pub WeighsNonnegative : Set → List Rational → Type 0
WeighsNonnegative set w = (v : List Rational) → length v ≡ length w → In set v → zero_ℚ ≤ℚ dot w v

-- what has no negative product is a dual, whatever the cone's dimension
pub dual_from_products : (set : Set) (w : List Rational) → is_scalar set ≡ false
    → WeighsNonnegative set w → Dual set w
dual_from_products (LessThan u) w c h = absurd (true≢false c)
dual_from_products (GreaterThan l) w c h = absurd (true≢false c)
dual_from_products (EqualTo x) w c h = absurd (true≢false c)
dual_from_products (Interval l u) w c h = absurd (true≢false c)
dual_from_products (Reals n) w c h = zero_units w (λ v e. h v e tt)
dual_from_products (Zeros n) w c h = tt
dual_from_products (Nonnegatives n) w c h =
    nonneg_units (λ x. zero_ℚ ≤ℚ x) (≤ℚ_refl zero_ℚ) one_nonneg w h
dual_from_products (Nonpositives n) w c h =
    nonpos_units (λ x. x ≤ℚ zero_ℚ) (≤ℚ_refl zero_ℚ) (nonpos_neg one_ℚ one_nonneg) w h
dual_from_products (NormInfinityCone n) w c h = sum_dominated w h
dual_from_products (NormOneCone n) w c h = each_dominated w h

cone_low : (set : Set) (w : List Rational) → is_scalar set ≡ false → low_of set w ≡ zero_ℚ
cone_low (LessThan u) w c = absurd (true≢false c)
cone_low (GreaterThan l) w c = absurd (true≢false c)
cone_low (EqualTo x) w c = absurd (true≢false c)
cone_low (Interval l u) w c = absurd (true≢false c)
cone_low _ w c = refl

-- for a cone of its components, each implies the other
pub dual_exactly : (n : ℕ) (set : Set) (w : List Rational) → IsSetOf n set → is_scalar set ≡ false
    → length w ≡ n → Dual set w ↔ WeighsNonnegative set w
dual_exactly n set w s c a = (
  λ d v e i. subst (λ q. q ≤ℚ dot w v) (cone_low set w c) (low_least n set w v s a (e ∙ a) i d),
  dual_from_products set w c,
)

-- a cone is the dual of its dual
pub dual_of-dual_of : (set : Set) → is_scalar set ≡ false → dual_of (dual_of set) ≡ set
dual_of-dual_of (LessThan u) c = absurd (true≢false c)
dual_of-dual_of (GreaterThan l) c = absurd (true≢false c)
dual_of-dual_of (EqualTo x) c = absurd (true≢false c)
dual_of-dual_of (Interval l u) c = absurd (true≢false c)
dual_of-dual_of _ c = refl
