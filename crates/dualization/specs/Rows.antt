-- The rows of the dual and its objective, as they are made from coefficients by name.
use Rattle.std.specs.Prelude.{◌≡◌, ℕ, ◌+◌, ◌-◌, ◌≤◌, if◌then◌else◌, List, [], ◌∷◌, ◌++◌, flat_map, length, map, replicate, Option, Some, None}
use Rattle.ratio_core.specs.Rational.{Rational, neg_ℚ, one_ℚ, zero_ℚ}
use Rattle.rational_laws.specs.Dot.{negated}
use Rattle.aff_core.specs.Address.{Address}
use Rattle.named_aff.specs.declared.aff.NamedAff.{NamedAff}
use Rattle.set_core.specs.declared.set.Set.{Set}
use Rattle.set_core.specs.declared.set.Set.TheVariants.{EqualTo, Interval, Zeros}
use Rattle.set_core.specs.Membership.{dual_of}
use Rattle.set_core.specs.Shapes.{is_scalar}
use Rattle.user_model.specs.declared.edit.NamedFunc.{NamedFunc}
use Rattle.user_model.specs.declared.edit.NamedFunc.TheVariants as named
use Rattle.user_model.specs.Model.{ModelValue}
use Rattle.aff_core.specs.declared.sense.Sense.{Sense}
use Rattle.user_model.specs.declared.edit.Edit.{Edit}
use Rattle.user_model.specs.declared.edit.Edit.TheVariants as edit
use Rattle.user_model.specs.declared.group.Group.{Group}
use Rattle.certificates.specs.Points.{objective_value}
use Rattle.dual_parts.specs.Parts.{own_bounds}
use Rattle.dual_model.specs.DualOf.{at_bounds, bound_numbers, column_in, cost_of, opposite, row_costs, signed}
use Rattle.dualization.specs.declared.sums.Sums.{Sums}
use Rattle.dualization.specs.ByName.{named_terms}

-- the set of a group's row, and none where any duals are right
abbrev pub row_set : Set → Option Set
row_set (EqualTo a) = None
row_set (Zeros n) = None
row_set (Interval l u) = Some (EqualTo zero_ℚ)
row_set set = Some (dual_of set)

-- where a group's own variables begin, of which only an interval has some
abbrev pub own_from : Set → ℕ → Option ℕ
own_from (Interval l u) n = Some n
own_from set n = None

-- a column negated, and behind it -1 for the two variables from a number on
abbrev pub left_coefficients : List Rational → Option ℕ → List Rational
left_coefficients column None = negated column
left_coefficients column (Some n) =
    (negated column ++ replicate (n - length (negated column)) zero_ℚ)
    ++ neg_ℚ one_ℚ ∷ neg_ℚ one_ℚ ∷ []

-- one function alone is one of numbers
abbrev pub one_or_more : List NamedAff → NamedFunc
one_or_more (f ∷ []) = named.Affine f
one_or_more fs = named.AffineVec fs

abbrev pub named_in : Set → List NamedAff → NamedFunc
named_in set fs = if is_scalar set then one_or_more fs else named.AffineVec fs

module _ (model : ModelValue) where
  -- each column has at most n numbers
  abbrev pub ColumnsFit : ℕ → Type 0
  ColumnsFit n = (v : Address) → length (column_in model.rows v) ≤ n

  -- and with those of the group's own variables at most this number
  abbrev pub LeftSize : Option ℕ → ℕ → Type 0
  LeftSize None size = ColumnsFit size
  LeftSize (Some n) size = ColumnsFit n × (n + 2 ≤ size)

  -- what is left for a variable, by name
  abbrev pub left_named : List (List ℕ) → Option ℕ → Address → NamedAff
  left_named names two v = record {
    terms = named_terms names (left_coefficients (column_in model.rows v) two);
    constant = cost_of model v;
  }

-- ---- the objective

-- what the variables count that groups have of their own
abbrev pub all_bounds : List Group → List Rational
all_bounds groups = flat_map (λ g. own_bounds g.set) groups

-- the objective where the variables count these numbers before the sense
abbrev pub edit_of_objective : List (List ℕ) → Sense → Rational → List Rational → Edit
edit_of_objective names sense constant costs =
    edit.Objective (opposite sense) (named.Affine (record {
      terms = named_terms names (map (signed sense) costs);
      constant = constant;
    }))

-- the sums are those of the dual's objective
pub record IsObjectiveOf (model : ModelValue) (sums : Sums) : Type 0 where
  pub constant : sums.constant ≡ objective_value model (bound_numbers model.groups)
  pub parts : sums.parts ≡ flat_map (row_costs (at_bounds model)) model.rows
