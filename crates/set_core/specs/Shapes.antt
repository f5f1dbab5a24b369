-- What of a set isn't its vectors: its type, its dimension and its bounds, and for how many
-- components it is a set.
use Rattle.std.specs.Prelude.{◌≡◌, ℕ, ◌≤◌, nat_lt, Bool, true, false, ◌&&◌, ◌||◌, not, ◌==◌, cond, List, length, filter, Option, Some, None}
use Rattle.std.proofs.Common.{is_lt}
use Rattle.ratio_core.specs.Rational.{Rational, rational_cmp}
use Rattle.set_core.specs.declared.set.Set.{Set}
use Rattle.set_core.specs.declared.set.Set.TheVariants.{LessThan, GreaterThan, EqualTo, Interval, Reals, Zeros, Nonnegatives, Nonpositives, NormInfinityCone, NormOneCone}
use Rattle.set_core.specs.declared.set_type.SetType.{SetType}
use Rattle.set_core.specs.declared.set_type.SetType.TheVariants as types
use Rattle.set_core.specs.contracts.set_type.SetTypePartialEq.TheImpl as equality

abbrev pub type_of : Set → SetType
type_of (LessThan u) = types.LessThan
type_of (GreaterThan l) = types.GreaterThan
type_of (EqualTo a) = types.EqualTo
type_of (Interval l u) = types.Interval
type_of (Reals n) = types.Reals
type_of (Zeros n) = types.Zeros
type_of (Nonnegatives n) = types.Nonnegatives
type_of (Nonpositives n) = types.Nonpositives
type_of (NormInfinityCone n) = types.NormInfinityCone
type_of (NormOneCone n) = types.NormOneCone

abbrev pub same_type : Set → Set → Bool
same_type s t = (equality.ghosts).eq (type_of s) (type_of t)

-- the length of a set's vectors
abbrev pub dimension_of : Set → ℕ
dimension_of (Reals n) = n
dimension_of (Zeros n) = n
dimension_of (Nonnegatives n) = n
dimension_of (Nonpositives n) = n
dimension_of (NormInfinityCone n) = n
dimension_of (NormOneCone n) = n
dimension_of _ = 1

-- a set of numbers, and not of vectors
abbrev pub is_scalar : Set → Bool
is_scalar (LessThan u) = true
is_scalar (GreaterThan l) = true
is_scalar (EqualTo a) = true
is_scalar (Interval l u) = true
is_scalar _ = false

abbrev pub is_norm_cone : Set → Bool
is_norm_cone (NormInfinityCone n) = true
is_norm_cone (NormOneCone n) = true
is_norm_cone _ = false

-- ---- bounds

abbrev pub lower_bound : Set → Option Rational
lower_bound (GreaterThan l) = Some l
lower_bound (EqualTo a) = Some a
lower_bound (Interval l u) = Some l
lower_bound _ = None

abbrev pub upper_bound : Set → Option Rational
upper_bound (LessThan u) = Some u
upper_bound (EqualTo a) = Some a
upper_bound (Interval l u) = Some u
upper_bound _ = None

-- a lower bound is above its upper bound
abbrev pub is_crossed : Set → Bool
is_crossed (Interval l u) = is_lt (rational_cmp u l)
is_crossed _ = false

-- ---- the number of components

-- a norm cone has a number beside its first
abbrev pub least_dimension : Set → ℕ
least_dimension set = cond (is_norm_cone set) 2 1

-- what a row or a group of n components may be in
pub record IsSetOf (n : ℕ) (set : Set) : Type 0 where
  pub dimension : dimension_of set ≡ n
  pub enough : least_dimension set ≤ n
  pub uncrossed : is_crossed set ≡ false

-- a set of vectors that isn't one of n components
abbrev pub has_bad_dimension : Set → ℕ → Bool
has_bad_dimension set components =
    not (is_scalar set)
    && (not (dimension_of set == components) || nat_lt (dimension_of set) (least_dimension set))

-- the set for this number of components
abbrev pub resized : ℕ → Set → Set
resized n (Reals d) = Reals n
resized n (Zeros d) = Zeros n
resized n (Nonnegatives d) = Nonnegatives n
resized n (Nonpositives d) = Nonpositives n
resized n (NormInfinityCone d) = NormInfinityCone n
resized n (NormOneCone d) = NormOneCone n
resized n set = set

-- the set of those components of a list that pass a test
abbrev pub shrunk : {X : Type 0} → (X → Bool) → List X → Set → Set
shrunk test components set = resized (length (filter test components)) set
