-- Rows and groups with duals. Each is a list of functions that are together in a set, with a dual
-- for each function; a group's functions are its variables.
--     pull hs x        the sum of the duals times the slopes at x
--     adjoint hs v     the sum of the duals times the coefficients of v
--     gap hs           the sum of the least products, less the duals times the constants
--     AllHold one hs x the functions are in the sets: at a point where `one` is 1, along a ray
--                      where it is 0
use Rattle.std.specs.Prelude.{◌≡◌, List, length, All}
use Rattle.ratio_core.specs.Rational.{Rational, ◌-ℚ◌}
use Rattle.rational_laws.specs.Dot.{dot}
use Rattle.rational_laws.specs.Sums.{sum_by_ℚ}
use Rattle.aff_core.specs.Address.{Address}
use Rattle.aff_core.specs.Function.{Function}
use Rattle.aff_core.specs.FunctionLists.{coefficients, constants, evaluations, slopes}
use Rattle.set_core.specs.declared.set.Set.{Set}
use Rattle.set_core.specs.Membership.{Dual, In, low_of}
use Rattle.set_core.specs.Mirrored.{multiplied}
use Rattle.set_core.specs.Shapes.{IsSetOf}

pub record DualRow : Type 0 where
  pub duals : List Rational
  pub functions : List Function
  pub set : Set

-- the set is one for n functions, and its dual set has the duals, one for each
pub record IsHeld (h : DualRow) : Type 0 where
  pub set : IsSetOf (length h.functions) h.set
  pub size : length h.duals ≡ length h.functions
  pub dual : Dual h.set h.duals

abbrev pub DualsHold : List DualRow → Type 0
DualsHold hs = All IsHeld hs

-- ---- of one

abbrev pub pull_of : DualRow → (Address → Rational) → Rational
pull_of h x = dot h.duals (slopes h.functions x)

abbrev pub adjoint_of : DualRow → Address → Rational
adjoint_of h v = dot h.duals (coefficients h.functions v)

abbrev pub gap_of : DualRow → Rational
gap_of h = low_of h.set h.duals -ℚ dot h.duals (constants h.functions)

abbrev pub Holds : Rational → DualRow → (Address → Rational) → Type 0
Holds one h x = In (multiplied one h.set) (evaluations one h.functions x)

-- ---- of all

abbrev pub pull : List DualRow → (Address → Rational) → Rational
pull hs x = sum_by_ℚ (λ h. pull_of h x) hs

abbrev pub adjoint : List DualRow → Address → Rational
adjoint hs v = sum_by_ℚ (λ h. adjoint_of h v) hs

abbrev pub gap : List DualRow → Rational
gap hs = sum_by_ℚ gap_of hs

abbrev pub AllHold : Rational → List DualRow → (Address → Rational) → Type 0
AllHold one hs x = All (λ h. Holds one h x) hs

-- a dual for each component, together in the dual of the set
pub record HasDuals (h : DualRow) : Type 0 where
  pub size : length h.duals ≡ length h.functions
  pub dual : Dual h.set h.duals
