-- The relaxation of a model, as a model.
--
-- The scalar affine rows are soft, and all others are hard. A point violates a soft row by the
-- distance of the row's value from its set. Each soft row is given slacks, variables of at least 0
-- that take up its violation: one that is subtracted below an upper bound, one that is added above a
-- lower bound, and both for an equation and an interval. The objective is the least sum of all slacks.
--
-- The slacks are named ~1, ~2 and so on. Where a variable of the model has the name of one, its
-- number is raised by the number of slacks until the name is free.
use Rattle.std.specs.Prelude.{ℕ, zero, suc, ◌+◌, Bool, cond, not, List, [], ◌∷◌, ◌++◌, decimal, drop, filter, length, map, replicate, take}
use Rattle.std.specs.Ordering.{is_lt}
use Rattle.ratio_core.specs.Rational.{Rational, neg_ℚ, one_ℚ, rational_cmp, rational_eq, zero_ℚ, ◌+ℚ◌, ◌-ℚ◌}
use Rattle.rational_laws.specs.Sums.{sum_ℚ}
use Rattle.aff_core.specs.Address.{Address}
use Rattle.aff_core.specs.declared.sense.Sense.TheVariants.{Min}
use Rattle.aff_core.specs.Function.{Function, function_of, with_coefficient}
use Rattle.aff_core.specs.FunctionLists.{values}
use Rattle.set_core.specs.declared.set.Set.{Set}
use Rattle.set_core.specs.declared.set.Set.TheVariants.{LessThan, GreaterThan, EqualTo, Interval, Nonnegatives}
use Rattle.set_core.specs.Vectors.{first_of}
use Rattle.user_model.specs.declared.objective.Objective.TheVariants as objective
use Rattle.user_model.specs.declared.row.Row.{Row}
use Rattle.user_model.specs.Edited.{on_affine}
use Rattle.user_model.specs.Functions.{is_scalar_affine}
use Rattle.user_model.specs.Model.{ModelValue, variable_address, variables}
use Rattle.user_model.specs.Refusals.{has_variable_named}
use Rattle.certificates.specs.Points.{at_point, functions_of}
use Rattle.group_numbering.specs.NewGroups.{NewGroup, numbered_groups, terms_from}

-- ---- soft and hard rows

abbrev pub is_soft : Row → Bool
is_soft r = is_scalar_affine r.func

abbrev pub is_hard : Row → Bool
is_hard r = not (is_scalar_affine r.func)

abbrev pub soft_rows : List Row → List Row
soft_rows rows = filter is_soft rows

abbrev pub hard_rows : List Row → List Row
hard_rows rows = filter is_hard rows

-- the model without its soft rows and without an objective
abbrev pub hard_model : ModelValue → ModelValue
hard_model model =
    record model { rows = hard_rows model.rows; objective = objective.Feasibility }

-- ---- violations of the soft rows

-- by how much the first number exceeds the second, if it does
abbrev pub excess : Rational → Rational → Rational
excess p q = cond (is_lt (rational_cmp q p)) (p -ℚ q) zero_ℚ

-- the violation of a set by a number: its distance from the set
abbrev pub violation : Set → Rational → Rational
violation (LessThan u) v = excess v u
violation (GreaterThan l) v = excess l v
violation (EqualTo a) v = excess a v +ℚ excess v a
violation (Interval l u) v = excess l v +ℚ excess v u
violation set v = zero_ℚ

-- the value of a row of numbers
abbrev pub row_value : (Address → Rational) → Row → Rational
row_value x r = first_of (values (functions_of r.func) x)

abbrev pub row_violation : (Address → Rational) → Row → Rational
row_violation x r = violation r.set (row_value x r)

-- the violation of each soft row at a point
abbrev pub violations : ModelValue → List Rational → List Rational
violations model x = map (row_violation (at_point model x)) (soft_rows model.rows)

-- and of all of them together
abbrev pub total_violation : ModelValue → List Rational → Rational
total_violation model x = sum_ℚ (violations model x)

-- ---- slacks

-- the coefficients of the slacks of a row in a set
abbrev pub signs_on : Set → List Rational
signs_on (LessThan u) = neg_ℚ one_ℚ ∷ []
signs_on (GreaterThan l) = one_ℚ ∷ []
signs_on (EqualTo a) = one_ℚ ∷ neg_ℚ one_ℚ ∷ []
signs_on (Interval l u) = one_ℚ ∷ neg_ℚ one_ℚ ∷ []
signs_on set = []

abbrev pub row_signs : Row → List Rational
row_signs r = cond (is_soft r) (signs_on r.set) []

abbrev pub slack_count : List Row → ℕ
slack_count [] = 0
slack_count (r ∷ rows) = length (row_signs r) + slack_count rows

-- ---- names

abbrev pub slack_name : ℕ → List ℕ
slack_name n = 126 ∷ decimal n

module _ (model : ModelValue) (step : ℕ) where
  -- the first of n, n + step and so on whose name is free, or the last of this many more
  abbrev pub free_number : ℕ → ℕ → ℕ
  free_number zero n = n
  free_number (suc more) n =
      cond (has_variable_named model (slack_name n)) (free_number more (n + step)) n

  -- as many as the model has variables are enough
  abbrev pub free_name : ℕ → List ℕ
  free_name k = slack_name (free_number (length (variables model)) k)

  -- the names of the slacks from the k-th on
  abbrev pub free_names : ℕ → ℕ → List (List ℕ)
  free_names k zero = []
  free_names k (suc count) = free_name k ∷ free_names (suc k) count

abbrev pub slack_names : ModelValue → List (List ℕ)
slack_names model = free_names model (slack_count model.rows) 1 (slack_count model.rows)

-- ---- the relaxation

-- a slack's group
abbrev pub slack_group : List ℕ → NewGroup
slack_group name = record { names = name ∷ []; set = Nonnegatives 1 }

-- the function with slacks numbered from n on
abbrev pub with_slacks : ℕ → List Rational → Function → Function
with_slacks n [] f = f
with_slacks n (q ∷ qs) f = with_slacks (suc n) qs (with_coefficient f (variable_address n) q)

-- a row with its slacks, of which a hard row has none
abbrev pub relaxed_row : ℕ → Row → Row
relaxed_row n r = record r { func = on_affine (with_slacks n (signs_on r.set)) r.func }

abbrev pub relaxed_rows : ℕ → List Row → List Row
relaxed_rows n [] = []
relaxed_rows n (r ∷ rows) = relaxed_row n r ∷ relaxed_rows (n + length (row_signs r)) rows

-- the sum of variables numbered from n on
abbrev pub sum_from : ℕ → ℕ → Function
sum_from n count = function_of (terms_from n (replicate count one_ℚ)) zero_ℚ

abbrev pub relaxed_model : ModelValue → ModelValue
relaxed_model model =
    let count = slack_count model.rows in
    let next = model.next in
    record {
      groups = model.groups
          ++ numbered_groups next.group next.variable (map slack_group (slack_names model));
      rows = relaxed_rows next.variable model.rows;
      objective = objective.Affine Min (sum_from next.variable count);
      next = record next { group = next.group + count; variable = next.variable + count };
    }

-- ---- what a point of the relaxation says

-- the violation of a row whose least slacks are these: of two, one is 0
abbrev pub slack_violation : List Rational → Rational
slack_violation [] = zero_ℚ
slack_violation (t ∷ []) = t
slack_violation (t ∷ s ∷ more) = cond (rational_eq t zero_ℚ) s t

-- the violation of each soft row, from the numbers of all slacks
abbrev pub slack_violations : List Row → List Rational → List Rational
slack_violations [] s = []
slack_violations (r ∷ rows) s =
    let size = length (row_signs r) in
    cond (is_soft r) (slack_violation (take size s) ∷ slack_violations rows (drop size s))
    (slack_violations rows s)

-- what is kept of a list with an item for each row: those of the hard rows
abbrev pub at_hard_rows : {X : Type 0} → List Row → List X → List X
at_hard_rows [] xs = []
at_hard_rows (r ∷ rows) [] = []
at_hard_rows (r ∷ rows) (x ∷ xs) =
    cond (is_hard r) (x ∷ at_hard_rows rows xs) (at_hard_rows rows xs)
