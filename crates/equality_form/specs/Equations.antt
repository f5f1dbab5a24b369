-- The equations of a leaf model: one for each component of each row, in the order of the rows'
-- addresses. A slack makes an equation of a component that is to be at most or at least a number.
-- What is said of one is said over any keys, since a solver's rows name indices.
use Rattle.std.specs.Prelude.{Bool, true, false, cond, List, Option, Some, None, flat_map, map}
use Rattle.std.specs.FinMap as finite
use Rattle.std.specs.declared.cmp.Ordering.{Ordering}
use Rattle.std.proofs.Common.{is_lt}
use Rattle.ratio_core.specs.Rational.{Rational, SumFits, neg_ℚ, rational_cmp, zero_ℚ, ◌-ℚ◌}
use Rattle.aff_core.specs.Address.{Address, address_cmp}
use Rattle.aff_core.specs.Function.{FunctionOver}
use Rattle.item_core.specs.declared.item.Body.{Body}
use Rattle.item_core.specs.Item.{functions_of, set_of}
use Rattle.leaf_model.specs.LeafModel.{LeafModel}
use Rattle.set_core.specs.declared.set.Set.{Set}
use Rattle.set_core.specs.declared.set.Set.TheVariants.{LessThan, GreaterThan, EqualTo, Nonnegatives, Nonpositives}

-- a component of a row, with the row's set
pub record EquationOver {K : Type 0} (R : K → K → Ordering) : Type 0 where
  pub function : FunctionOver R
  pub set : Set

abbrev pub Equation : Type 0
Equation = EquationOver address_cmp

module _ {K : Type 0} {R : K → K → Ordering} where
  abbrev pub equations_for : Set → List (FunctionOver R) → List (EquationOver R)
  equations_for set functions = map (λ f. record { function = f; set = set }) functions

abbrev pub equations_of : Body → List Equation
equations_of body = equations_for (set_of body) (functions_of body)

abbrev pub equations_among : List (Address × Body) → List Equation
equations_among rows = flat_map (λ row. equations_of row.1) rows

abbrev pub equations : LeafModel → List Equation
equations leaves = equations_among (finite.entries leaves.rows)

-- ---- by the set

-- the number that a component is to be, or not to pass
abbrev pub number_of : Set → Rational
number_of (LessThan u) = u
number_of (GreaterThan l) = l
number_of (EqualTo a) = a
number_of _ = zero_ℚ

-- whether the slack is taken off, where there is one: it is added where a component may be less
abbrev pub slack_of : Set → Option Bool
slack_of (LessThan u) = Some false
slack_of (Nonpositives n) = Some false
slack_of (GreaterThan l) = Some true
slack_of (Nonnegatives n) = Some true
slack_of _ = None

-- ---- right sides

module _ {K : Type 0} {R : K → K → Ordering} where
  abbrev pub right_of : EquationOver R → Rational
  right_of e = number_of e.set -ℚ e.function.constant

  -- the difference fits, by the rule for sums
  abbrev pub RightFits : EquationOver R → Type 0
  RightFits e = SumFits (number_of e.set) (neg_ℚ e.function.constant)

  -- an equation whose right side is negative is multiplied by -1
  abbrev pub is_flipped : EquationOver R → Bool
  is_flipped e = is_lt (rational_cmp (right_of e) zero_ℚ)

-- the number, negated where it is to be
abbrev pub flipped : Bool → Rational → Rational
flipped negated q = cond negated (neg_ℚ q) q
