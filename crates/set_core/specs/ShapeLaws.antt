-- When a set is one of n components: the tests that refuse one that isn't, and what is left
-- when components go.
use Rattle.std.specs.Prelude.{◌≡◌, ℕ, ◌<◌, ◌≤◌, nat_lt, Bool, true, false, ◌||◌, not, ◌==◌, List, length, filter, refl}
use Rattle.std.proofs.Common.{sym, arith, is_lt, subst, true≢false}
use Rattle.std.proofs.lemmas.Bool.Decides.{nat_tests}
use Rattle.std.proofs.lemmas.List.Sums.{count_by-le-length, length-filter}
use Rattle.ratio_core.specs.Rational.{Rational, rational_cmp, ◌≤ℚ◌}
use Rattle.rational_laws.specs.Order.{not_‹ℚ_from_≤ℚ}
use Rattle.rational_laws.specs.Tests.{ge_from_failed, lt_from_test}
use Rattle.set_core.specs.declared.set.Set.{Set}
use Rattle.set_core.specs.declared.set.Set.TheVariants.{LessThan, GreaterThan, EqualTo, Interval, Reals, Zeros, Nonnegatives, Nonpositives, NormInfinityCone, NormOneCone}
use Rattle.set_core.specs.Shapes.{IsSetOf, dimension_of, has_bad_dimension, is_crossed, is_norm_cone, is_scalar, least_dimension, resized, shrunk}

-- the bounds of an interval that isn't crossed are in order
pub in_order : (l u : Rational) → is_crossed (Interval l u) ≡ false → l ≤ℚ u
in_order l u h = ge_from_failed u l h

pub not_crossed : (l u : Rational) → l ≤ℚ u → is_crossed (Interval l u) ≡ false
not_crossed l u h =
    test_fails (is_lt (rational_cmp u l)) (λ t. not_‹ℚ_from_≤ℚ l u h (lt_from_test u l t))
  where
    test_fails : (b : Bool) → ¬ (b ≡ true) → b ≡ false
    test_fails true h = absurd (h refl)
    test_fails false h = refl

pub scalar_one : (set : Set) → is_scalar set ≡ true → dimension_of set ≡ 1
scalar_one (LessThan u) s = refl
scalar_one (GreaterThan l) s = refl
scalar_one (EqualTo a) s = refl
scalar_one (Interval l u) s = refl
scalar_one _ s = absurd (true≢false (sym s))

-- ---- the refusals

good : (d n least : ℕ) → (not (d == n) || nat_lt d least) ≡ false → (d ≡ n) × (least ≤ n)
good d n least h = grind (arith, nat_tests)

not_bad : (d n least : ℕ) → d ≡ n → least ≤ n → (not (d == n) || nat_lt d least) ≡ false
not_bad d n least e h = grind (arith, nat_tests)

-- a set that no test refuses is one of n components
pub set_of_from_tests : (n : ℕ) (set : Set) → (is_scalar set ≡ true → n ≡ 1)
    → has_bad_dimension set n ≡ false → is_crossed set ≡ false → IsSetOf n set
set_of_from_tests n set one bad crossed = record {
  dimension = (sizes set one bad).0;
  enough = (sizes set one bad).1;
  uncrossed = crossed;
}
  where
    scalar : n ≡ 1 → (1 ≡ n) × (1 ≤ n)
    scalar e = (sym e, omega arith)

    sizes : (set : Set) → (is_scalar set ≡ true → n ≡ 1) → has_bad_dimension set n ≡ false
        → (dimension_of set ≡ n) × (least_dimension set ≤ n)
    sizes (LessThan u) one bad = scalar (one refl)
    sizes (GreaterThan l) one bad = scalar (one refl)
    sizes (EqualTo a) one bad = scalar (one refl)
    sizes (Interval l u) one bad = scalar (one refl)
    sizes (Reals d) one bad = good d n 1 bad
    sizes (Zeros d) one bad = good d n 1 bad
    sizes (Nonnegatives d) one bad = good d n 1 bad
    sizes (Nonpositives d) one bad = good d n 1 bad
    sizes (NormInfinityCone d) one bad = good d n 2 bad
    sizes (NormOneCone d) one bad = good d n 2 bad

-- and a set of n components is refused by none
pub scalar_of_one : (n : ℕ) (set : Set) → IsSetOf n set → is_scalar set ≡ true → n ≡ 1
scalar_of_one n (LessThan u) s h = sym s.dimension
scalar_of_one n (GreaterThan l) s h = sym s.dimension
scalar_of_one n (EqualTo a) s h = sym s.dimension
scalar_of_one n (Interval l u) s h = sym s.dimension
scalar_of_one n _ s h = absurd (true≢false (sym h))

pub good_dimension : (n : ℕ) (set : Set) → IsSetOf n set → has_bad_dimension set n ≡ false
good_dimension n (LessThan u) s = refl
good_dimension n (GreaterThan l) s = refl
good_dimension n (EqualTo a) s = refl
good_dimension n (Interval l u) s = refl
good_dimension n (Reals d) s = not_bad d n 1 s.dimension s.enough
good_dimension n (Zeros d) s = not_bad d n 1 s.dimension s.enough
good_dimension n (Nonnegatives d) s = not_bad d n 1 s.dimension s.enough
good_dimension n (Nonpositives d) s = not_bad d n 1 s.dimension s.enough
good_dimension n (NormInfinityCone d) s = not_bad d n 2 s.dimension s.enough
good_dimension n (NormOneCone d) s = not_bad d n 2 s.dimension s.enough

-- ---- fewer components

-- a set of n components that is no norm cone is one of fewer, if some are left
pub resized_set : (n k : ℕ) (set : Set) → IsSetOf n set → is_norm_cone set ≡ false → 0 < k → k ≤ n
    → IsSetOf k (resized k set)
resized_set n k (LessThan u) s c some h =
    record { dimension = omega (arith, s.dimension); enough = some; uncrossed = refl }
resized_set n k (GreaterThan l) s c some h =
    record { dimension = omega (arith, s.dimension); enough = some; uncrossed = refl }
resized_set n k (EqualTo a) s c some h =
    record { dimension = omega (arith, s.dimension); enough = some; uncrossed = refl }
resized_set n k (Interval l u) s c some h =
    record { dimension = omega (arith, s.dimension); enough = some; uncrossed = s.uncrossed }
resized_set n k (Reals d) s c some h = record { dimension = refl; enough = some; uncrossed = refl }
resized_set n k (Zeros d) s c some h = record { dimension = refl; enough = some; uncrossed = refl }
resized_set n k (Nonnegatives d) s c some h =
    record { dimension = refl; enough = some; uncrossed = refl }
resized_set n k (Nonpositives d) s c some h =
    record { dimension = refl; enough = some; uncrossed = refl }
resized_set n k (NormInfinityCone d) s c some h = absurd (true≢false c)
resized_set n k (NormOneCone d) s c some h = absurd (true≢false c)

-- so it is with those that pass a test
pub shrunk_set : {X : Type 0} (test : X → Bool) (components : List X) (set : Set)
    → IsSetOf (length components) set → is_norm_cone set ≡ false
    → 0 < length (filter test components)
    → IsSetOf (length (filter test components)) (shrunk test components set)
shrunk_set test components set s c some =
    resized_set (length components) (length (filter test components)) set s c some
    (subst (λ k. k ≤ length components) (sym (length-filter test components))
    (count_by-le-length test components))
