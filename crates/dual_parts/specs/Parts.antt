-- The variables that hold duals in the dual of a model.
--
-- The dual of an interval is the sum of two: one at least 0, which the lower bound multiplies, and
-- one at most 0, which the upper bound multiplies. These are its parts. The duals of any other set
-- are their own parts.
--     AreParts joined parts_for            what parts are, the duals that they give, and parts of duals
--     on_parts                 a row's coefficients, one for each part
--     bounds_on                what multiplies each part in the least product with the set
--     shifts_on own_bounds     the same for a group, of which only an interval has parts
use Rattle.std.specs.Prelude.{◌≡◌, ℕ, List, [], ◌∷◌, ◌++◌, cond, replicate}
use Rattle.std.specs.Ordering.{is_le}
use Rattle.ratio_core.specs.Rational.{Rational, rational_cmp, zero_ℚ, ◌+ℚ◌, ◌-ℚ◌, ◌≤ℚ◌}
use Rattle.set_core.specs.declared.set.Set.{Set}
use Rattle.set_core.specs.declared.set.Set.TheVariants.{LessThan, GreaterThan, EqualTo, Interval, Zeros}
use Rattle.set_core.specs.Membership.{Dual, dual_of}
use Rattle.set_core.specs.Vectors.{first_of, others_of}

-- ---- the parts of a row's duals

-- the sets of the groups that the parts are in
abbrev pub part_sets : Set → List Set
part_sets (Interval l u) = GreaterThan zero_ℚ ∷ LessThan zero_ℚ ∷ []
part_sets set = dual_of set ∷ []

-- the number of parts of n duals
abbrev pub part_count : Set → ℕ → ℕ
part_count (Interval l u) n = 2
part_count set n = n

abbrev pub AreParts : Set → List Rational → Type 0
AreParts (Interval l u) ys = (zero_ℚ ≤ℚ first_of ys) × (first_of (others_of ys) ≤ℚ zero_ℚ)
AreParts set ys = Dual set ys

-- the duals that parts give
abbrev pub joined : Set → List Rational → List Rational
joined (Interval l u) ys = (first_of ys +ℚ first_of (others_of ys)) ∷ []
joined set ys = ys

-- a number where it is above 0, and where it is below
abbrev pub above_zero : Rational → Rational
above_zero q = cond (is_le (rational_cmp zero_ℚ q)) q zero_ℚ

abbrev pub below_zero : Rational → Rational
below_zero q = cond (is_le (rational_cmp zero_ℚ q)) zero_ℚ q

-- parts of duals
abbrev pub parts_for : Set → List Rational → List Rational
parts_for (Interval l u) w = above_zero (first_of w) ∷ below_zero (first_of w) ∷ []
parts_for set w = w

-- what stands at a dual, at each of its parts
abbrev pub on_parts : Set → List Rational → List Rational
on_parts (Interval l u) qs = qs ++ qs
on_parts set qs = qs

-- what multiplies the parts of n duals in the least product with the set
abbrev pub bounds_on : Set → ℕ → List Rational
bounds_on (LessThan u) n = u ∷ []
bounds_on (GreaterThan l) n = l ∷ []
bounds_on (EqualTo a) n = a ∷ []
bounds_on (Interval l u) n = l ∷ u ∷ []
bounds_on set n = replicate n zero_ℚ

-- ---- the duals of a group, which are what the objective and the rows leave for its variables

-- the bound of each of n variables of a group: that of a scalar set with one, and else 0
abbrev pub shifts_on : Set → ℕ → List Rational
shifts_on (LessThan u) n = u ∷ []
shifts_on (GreaterThan l) n = l ∷ []
shifts_on (EqualTo a) n = a ∷ []
shifts_on (Interval l u) n = zero_ℚ ∷ []
shifts_on set n = replicate n zero_ℚ

-- only an interval has parts, which the bounds multiply
abbrev pub own_sets : Set → List Set
own_sets (Interval l u) = GreaterThan zero_ℚ ∷ LessThan zero_ℚ ∷ []
own_sets set = []

abbrev pub own_bounds : Set → List Rational
own_bounds (Interval l u) = l ∷ u ∷ []
own_bounds set = []

abbrev pub AreOwn : Set → List Rational → Type 0
AreOwn (Interval l u) ps = AreParts (Interval l u) ps
AreOwn set ps = Unit {0}

abbrev pub own_for : Set → List Rational → List Rational
own_for (Interval l u) w = parts_for (Interval l u) w
own_for set w = []

-- what a row of the dual asks of the duals w and their parts: that they are in the dual set, or
-- the sum of the parts
abbrev pub IsLeftOfDuals : Set → List Rational → List Rational → Type 0
IsLeftOfDuals (EqualTo a) w ps = Unit {0}
IsLeftOfDuals (Zeros n) w ps = Unit {0}
IsLeftOfDuals (Interval l u) w ps =
    first_of w -ℚ first_of ps -ℚ first_of (others_of ps) ≡ zero_ℚ
IsLeftOfDuals set w ps = Dual set w
