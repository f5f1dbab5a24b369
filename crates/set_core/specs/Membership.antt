-- What is in a set, in its dual set and in its recession set, and the least product with a dual.
use Rattle.std.specs.Prelude.{◌≡◌, List, cond}
use Rattle.std.specs.Ordering.{is_le}
use Rattle.ratio_core.specs.Rational.{Rational, zero_ℚ, ◌*ℚ◌, ◌≤ℚ◌, Fits, rational_cmp}
use Rattle.set_core.specs.declared.set.Set.{Set}
use Rattle.set_core.specs.declared.set.Set.TheVariants.{LessThan, GreaterThan, EqualTo, Interval, Reals, Zeros, Nonnegatives, Nonpositives, NormInfinityCone, NormOneCone}
use Rattle.set_core.specs.Vectors.{first_of, AllZero, AllNonnegative, AllNonpositive, DominatesEach, DominatesSum, NormFits}

abbrev pub In : Set → List Rational → Type 0
In (LessThan u) v = first_of v ≤ℚ u
In (GreaterThan l) v = l ≤ℚ first_of v
In (EqualTo a) v = first_of v ≡ a
In (Interval l u) v = (l ≤ℚ first_of v) × (first_of v ≤ℚ u)
In (Reals n) v = Unit {0}
In (Zeros n) v = AllZero v
In (Nonnegatives n) v = AllNonnegative v
In (Nonpositives n) v = AllNonpositive v
In (NormInfinityCone n) v = DominatesEach v
In (NormOneCone n) v = DominatesSum v

-- the set with each of its numbers 0, whose vectors lead nowhere out of the set
abbrev pub recession : Set → Set
recession (LessThan u) = LessThan zero_ℚ
recession (GreaterThan l) = GreaterThan zero_ℚ
recession (EqualTo a) = EqualTo zero_ℚ
recession (Interval l u) = Interval zero_ℚ zero_ℚ
recession set = set

-- the set of the duals
abbrev pub dual_of : Set → Set
dual_of (LessThan u) = LessThan zero_ℚ
dual_of (GreaterThan l) = GreaterThan zero_ℚ
dual_of (EqualTo a) = Reals 1
dual_of (Interval l u) = Reals 1
dual_of (Reals n) = Zeros n
dual_of (Zeros n) = Reals n
dual_of (Nonnegatives n) = Nonnegatives n
dual_of (Nonpositives n) = Nonpositives n
dual_of (NormInfinityCone n) = NormOneCone n
dual_of (NormOneCone n) = NormInfinityCone n

abbrev pub Dual : Set → List Rational → Type 0
Dual set w = In (dual_of set) w

-- the sum of a norm fits, where membership takes one
abbrev pub MembershipFits : Set → List Rational → Type 0
MembershipFits (NormOneCone n) v = NormFits v
MembershipFits _ v = Unit {0}

abbrev pub DualFits : Set → List Rational → Type 0
DualFits set w = MembershipFits (dual_of set) w

-- the least product of w with the vectors of the set, where w is in the dual set
abbrev pub low_of : Set → List Rational → Rational
low_of (LessThan u) w = u *ℚ first_of w
low_of (GreaterThan l) w = l *ℚ first_of w
low_of (EqualTo a) w = a *ℚ first_of w
low_of (Interval l u) w = cond (is_le (rational_cmp zero_ℚ (first_of w))) l u *ℚ first_of w
low_of _ w = zero_ℚ

abbrev pub LowFits : Set → List Rational → Type 0
LowFits set w = Fits (low_of set w)
