-- The dual of a valid model holds just its duals: the theorem both ways.
use Rattle.std.specs.Prelude.{◌≡◌, ℕ, ◌+◌, ◌≤◌, List, [], ◌∷◌, ◌++◌, All, flat_map, length, map, refl}
use Rattle.std.proofs.Common.{sym, ◌∙◌, ap, ap₂, arith, subst}
use Rattle.std.proofs.lemmas.List.{length-append, length-map}
use Rattle.std.proofs.lemmas.List.Elements.{All-append, All-head, All-tail, All-weaker}
use Rattle.map_laws.specs.EachLaws.{all_first, all_second, map_same_on}
use Rattle.ratio_core.specs.Rational.{Rational, neg_ℚ, ◌+ℚ◌, ◌-ℚ◌, ◌≤ℚ◌}
use Rattle.rational_laws.specs.Dot.{dot, negated}
use Rattle.rational_laws.specs.DotLaws.{dot-append, length-negated, negated-dot}
use Rattle.rational_laws.specs.Field.{+ℚ_inner_comm}
use Rattle.rational_laws.specs.Order.{≤ℚ-+ℚ, ≤ℚ_refl}
use Rattle.rational_laws.specs.Ring.{as_expression, by_ring, ring₂}
use Rattle.rational_laws.specs.Sums.{sum_by_ℚ-append}
use Rattle.aff_core.specs.Address.{Address}
use Rattle.aff_core.specs.Function.{Function, IsNegated, coefficient, negated as negated_function, slope, value_of}
use Rattle.aff_core.specs.FunctionLaws.{is_negated}
use Rattle.aff_core.specs.FunctionLists.{coefficients}
use Rattle.aff_core.specs.KeyOrder.{address_order}
use Rattle.aff_core.specs.declared.sense.Sense.{Sense}
use Rattle.aff_core.specs.declared.sense.Sense.TheVariants.{Min, Max}
use Rattle.linear_laws.specs.ListLaws.{slope_negated}
use Rattle.dual_laws.specs.Held.{HasDuals, gap, pull, pull_of}
use Rattle.dual_laws.specs.PullLaws.{gap-append}
use Rattle.user_model.specs.declared.group.Group.{Group}
use Rattle.user_model.specs.declared.row.Row.{Row}
use Rattle.user_model.specs.Model.{ModelValue, variables}
use Rattle.user_model.specs.Valid.{IsValid, IsValidGroup, IsValidRow}
use Rattle.set_core.specs.Shapes.{IsSetOf}
use Rattle.certificates.specs.Points.{address_of, addresses_of, all_addresses, at_point, functions_of, objective_coefficient, objective_constant, objective_function, objective_value, sense_of}
use Rattle.certificates.specs.Feasible.{IsBetter, IsFeasible}
use Rattle.certificates.specs.Duals.{adjoint_of_rows, dual_gap, groups_with, reduced_cost, rows_with, with_duals}
use Rattle.certificates.specs.Good.{HasReducedCost, dual_objective}
use Rattle.certificates.specs.DualPointLaws.{component_count, pull_at, weighs}
use Rattle.certificates.specs.PointLaws.{split_addresses}
use Rattle.dual_parts.specs.Parts.{IsLeftOfDuals, on_parts, own_bounds, shifts_on}
use Rattle.dual_parts.specs.GroupPartLaws.{shifts_below}
use Rattle.dual_parts.specs.PartLaws.{below_low, length-on_parts}
use Rattle.group_numbering.specs.HoldLaws.{HoldFrom, groups_from_hold, hold_both, hold_first, hold_from_groups, hold_second}
use Rattle.group_numbering.specs.NewGroups.{NewGroup, variable_count}
use Rattle.group_numbering.specs.NumberLaws.{length-numbers_from, numbers_from, numbers_from-append, value_from}
use Rattle.group_numbering.specs.PlaceLaws.{count-append, first_point_at, group_addresses, joined_alike, length-addresses_from}
use Rattle.dual_model.specs.DualOf.{at_bounds, bound_numbers, column_in, cost_of, costs, dual_of_model, each_placed, group_groups, new_groups, opposite, row_costs, row_groups, row_size, row_variables, signed}
use Rattle.dual_model.specs.Carried.{AreRightDuals, CarriesTo, HoldsDuals, IsCarriedFrom, carried_rows, carried_variable, carried_variables, part_size}
use Rattle.dual_model.specs.RowPartLaws.{AddsUp, ArePartsOf, Count, HasSetOf, adjoint_weighed, carried_are, count-rows, duals_of_rows, length-costs, length-rows_duals, parts_of_rows, rows_count, rows_duals, rows_from_parts, total_parts}
use Rattle.dual_model.specs.GroupRowLaws.{AreGroupsLeft, AreOwnOf, CountOwn, HasGroupSetOf, IsLeftAt, count-groups, duals_of_groups, groups_count, groups_of_own, left_at, left_from_rows, length-own, own_of_groups, own_total, rows_from_left}
use Rattle.dual_model.specs.PlaceLaws.{each_same, each_shift, length-bound_numbers, point_at}
use Rattle.dual_model.specs.LaidLaws.{equal_adds, laid_count, laid_count_own, laid_duals, laid_left, laid_own, laid_parts, length-own_numbers, length-row_numbers, own_numbers, row_numbers}
use Rattle.dual_model.specs.SenseLaws.{no_better, reduced_is, same_value, signed_dot}

-- ---- at most adds up

pub at_most_adds : AddsUp (λ p q. p ≤ℚ q)
at_most_adds = record { itself = ≤ℚ_refl; sums = ≤ℚ-+ℚ }

-- ---- a valid model's sets

valid_row_set : (groups : List Group) (r : Row) → IsValidRow groups r → HasSetOf r
valid_row_set groups r h = subst (λ n. IsSetOf n r.set) (sym (component_count r.func)) h.set

valid_group_set : (g : Group) → IsValidGroup g → HasGroupSetOf g
valid_group_set g h = subst (λ n. IsSetOf n g.set) (sym (length-map g.vars address_of)) h.set

length-column : (rows : List Row) (v : Address) → All HasSetOf rows
    → length (column_in rows v) ≡ total_parts rows
length-column [] v sets = refl
length-column (r ∷ rows) v sets =
    length-append (on_parts r.set (coefficients (functions_of r.func) v)) (column_in rows v)
    ∙ ap₂ ◌+◌ (length-on_parts (row_size r) r.set (coefficients (functions_of r.func) v)
    (All-head HasSetOf r rows sets) (length-map (functions_of r.func) (λ f. coefficient f v)))
    (length-column rows v (All-tail HasSetOf r rows sets))

-- parts count at most the least products
parts_count : (x at : Address → Rational) (n : ℕ) (rows : List Row) → All HasSetOf rows
    → ArePartsOf x n rows → Count x (λ p q. p ≤ℚ q) at_most_adds at n rows
parts_count x at n [] sets h = tt
parts_count x at n (r ∷ rows) sets h = (
  below_low (row_size r) r.set (numbers_from x n (part_size r)) (All-head HasSetOf r rows sets)
      (length-numbers_from x n (part_size r)) h.0,
  parts_count x at (n + part_size r) rows (All-tail HasSetOf r rows sets) h.1,
)

module _ (model : ModelValue) (x w at : Address → Rational) where
  own_count : (n : ℕ) (groups : List Group) → All HasGroupSetOf groups
      → All (IsLeftAt model x w) (all_addresses groups) → AreOwnOf x n groups
      → AreGroupsLeft model x n groups → CountOwn x w (λ p q. p ≤ℚ q) at_most_adds at n groups
  own_count n [] sets same own left = tt
  own_count n (g ∷ groups) sets same own left =
      let vs : List Address = addresses_of g.vars in
      let size : ℕ = length (own_bounds g.set) in
      let all = subst (All (IsLeftAt model x w)) (split_addresses g groups) same in
      let here = map_same_on w (left_at model x) vs
      (all_first (IsLeftAt model x w) vs (all_addresses groups) all) in (
        shifts_below (length vs) g.set (map w vs) (numbers_from x n size)
            (All-head HasGroupSetOf g groups sets) (length-map vs w) (length-numbers_from x n size)
            own.0 (subst (λ ws. IsLeftOfDuals g.set ws (numbers_from x n size)) (sym here) left.0),
        own_count (n + size) groups (All-tail HasGroupSetOf g groups sets)
            (all_second (IsLeftAt model x w) vs (all_addresses groups) all) own.1 left.1,
      )

-- ---- a point of the dual, and the duals that it gives

module _ (model : ModelValue) (valid : IsValid model) where
  row_sets : All HasSetOf model.rows
  row_sets = All-weaker (IsValidRow model.groups) HasSetOf (valid_row_set model.groups) model.rows
      valid.parts.valid_rows

  group_sets : All HasGroupSetOf model.groups
  group_sets = All-weaker IsValidGroup HasGroupSetOf valid_group_set model.groups
      valid.parts.valid_groups

  abbrev at : Address → Rational
  at = at_bounds model

  shifts : All (λ (g : Group). map at (addresses_of g.vars)
      ≡ shifts_on g.set (length (addresses_of g.vars))) model.groups
  shifts =
      each_shift at model.groups group_sets
      (point_at model.groups (bound_numbers model.groups) valid.consistent.variables_rise
      (length-bound_numbers model.groups group_sets))

  abbrev first_own : ℕ
  first_own = total_parts model.rows

  row_variables_are : row_variables model ≡ first_own
  row_variables_are = count-rows 1 model.rows

  -- the number of the dual's variables
  abbrev size : ℕ
  size = variable_count (new_groups model)

  size_is : size ≡ first_own + own_total model.groups
  size_is =
      count-append (each_placed row_groups 1 model.rows) (each_placed group_groups 1 model.groups)
      ∙ ap₂ ◌+◌ row_variables_are (count-groups 1 model.groups)

  behind : (v : Address) → length (column_in model.rows v) ≤ row_variables model
  behind v = omega (arith, length-column model.rows v row_sets, row_variables_are)

  module _ (x : Address → Rational) where
    abbrev given : List (List Rational)
    given = rows_duals x 0 model.rows

    -- what the dual's rows leave is what the equations leave
    left_is : (v : Address) → left_at model x v ≡ carried_variable model given v
    left_is v =
        let qs : List Rational = column_in model.rows v in
        let xs : List Rational = numbers_from x 0 (length (negated qs)) in
        value_from 0 (negated qs) (cost_of model v) x
        ∙ ap (λ s. cost_of model v +ℚ s) (negated-dot qs xs
        ∙ ap neg_ℚ (ap (λ n. dot qs (numbers_from x 0 n))
        (length-negated qs ∙ length-column model.rows v row_sets)
        ∙ sym (adjoint_weighed x 0 model.rows row_sets v)))
        ∙ reduced_is (sense_of model.objective) (objective_coefficient model v)
        (adjoint_of_rows model given v)

    module _ (vars : List Rational)
        (equations : All (HasReducedCost model given vars) (addresses_of (variables model))) where
      abbrev w : Address → Rational
      w = at_point model vars

      same : All (IsLeftAt model x w) (all_addresses model.groups)
      same = All-weaker (HasReducedCost model given vars) (IsLeftAt model x w)
          (λ v e. e ∙ sym (left_is v)) (all_addresses model.groups) equations

      -- the objective's function by the sense, whose coefficients the equations have
      signed_function : (sense : Sense) (f : Function)
          → All (λ v. w v ≡ reduced_cost sense (coefficient f v) (adjoint_of_rows model given v))
          (addresses_of (variables model))
          → pull (with_duals model given vars) at ≡ signed sense (slope f at)
      signed_function Min f each =
          pull_at (with_duals model given vars) f at (weighs model given vars valid (coefficient f)
          (All-weaker (λ v. w v ≡ coefficient f v -ℚ adjoint_of_rows model given v)
          (λ v. adjoint_of_rows model given v +ℚ w v ≡ coefficient f v)
          (λ v e. ap (λ q. adjoint_of_rows model given v +ℚ q) e
          ∙ back (adjoint_of_rows model given v) (coefficient f v))
          (addresses_of (variables model)) each) (bound_numbers model.groups))
        where
          back : (a c : Rational) → a +ℚ (c -ℚ a) ≡ c
          back = ring₂ _ (λ ρ. simp as_expression (by_ring ρ _ _ refl))
      signed_function Max f each =
          pull_at (with_duals model given vars) (negated_function f) at
          (weighs model given vars valid (coefficient (negated_function f))
          (All-weaker (λ v. w v ≡ neg_ℚ (coefficient f v +ℚ adjoint_of_rows model given v))
          (λ v. adjoint_of_rows model given v +ℚ w v ≡ coefficient (negated_function f) v)
          (λ v e. ap (λ q. adjoint_of_rows model given v +ℚ q) e
          ∙ back (adjoint_of_rows model given v) (coefficient f v)
          ∙ sym (negation.coefficients v)) (addresses_of (variables model)) each)
          (bound_numbers model.groups))
          ∙ slope_negated f (negated_function f) negation at
        where
          negation : IsNegated f (negated_function f)
          negation = is_negated address_order f (negated_function f) refl

          back : (a c : Rational) → a +ℚ neg_ℚ (c +ℚ a) ≡ neg_ℚ c
          back = ring₂ _ (λ ρ. simp as_expression (by_ring ρ _ _ refl))

      abbrev counted : Rational
      counted = dot (costs model) (numbers_from x 0 (first_own + own_total model.groups))

      split_count : counted +ℚ pull (with_duals model given vars) at
          ≡ (dot (flat_map (row_costs at) model.rows) (numbers_from x 0 first_own)
          +ℚ pull (rows_with given model.rows) at)
          +ℚ (dot (flat_map (λ g. own_bounds g.set) model.groups)
          (numbers_from x (0 + first_own) (own_total model.groups))
          +ℚ pull (groups_with w model.groups) at)
      split_count =
          let rows : List Rational = flat_map (row_costs at) model.rows in
          let groups : List Rational = flat_map (λ g. own_bounds g.set) model.groups in
          ap₂ ◌+ℚ◌ (ap (dot (rows ++ groups))
          (numbers_from-append x 0 first_own (own_total model.groups))
          ∙ dot-append rows (numbers_from x 0 first_own) groups
          (numbers_from x (0 + first_own) (own_total model.groups))
          (length-costs x (λ p q. p ≡ q) equal_adds at model.rows row_sets
          ∙ sym (length-numbers_from x 0 first_own)))
          (sum_by_ℚ-append (λ h. pull_of h at) (rows_with given model.rows)
          (groups_with w model.groups))
          ∙ +ℚ_inner_comm (dot rows (numbers_from x 0 first_own))
          (dot groups (numbers_from x (0 + first_own) (own_total model.groups)))
          (pull (rows_with given model.rows) at) (pull (groups_with w model.groups) at)

      -- what the dual's variables count, with what the objective has at the bounds
      counts : (R : Rational → Rational → Type 0) (order : AddsUp R)
          → Count x R order at 0 model.rows → CountOwn x w R order at (0 + first_own) model.groups
          → R (counted +ℚ signed (sense_of model.objective)
          (slope (objective_function model.objective) at)) (dual_gap model given vars)
      counts R order rows groups =
          subst (λ q. R (counted +ℚ q) (dual_gap model given vars))
          (signed_function (sense_of model.objective) (objective_function model.objective) equations)
          (subst (λ q. R q (dual_gap model given vars)) (sym split_count)
          (subst (λ q. R ((dot (flat_map (row_costs at) model.rows) (numbers_from x 0 first_own)
          +ℚ pull (rows_with given model.rows) at)
          +ℚ (dot (flat_map (λ g. own_bounds g.set) model.groups)
          (numbers_from x (0 + first_own) (own_total model.groups))
          +ℚ pull (groups_with w model.groups) at)) q)
          (sym (gap-append (rows_with given model.rows) (groups_with w model.groups)))
          (order.sums (dot (flat_map (row_costs at) model.rows) (numbers_from x 0 first_own)
          +ℚ pull (rows_with given model.rows) at) (gap (rows_with given model.rows))
          (dot (flat_map (λ g. own_bounds g.set) model.groups)
          (numbers_from x (0 + first_own) (own_total model.groups))
          +ℚ pull (groups_with w model.groups) at) (gap (groups_with w model.groups))
          (rows_count x R order at 0 model.rows row_sets rows)
          (groups_count x w R order at (0 + first_own) model.groups shifts groups))))

  length-all_costs : length (map (signed (sense_of model.objective)) (costs model))
      ≡ first_own + own_total model.groups
  length-all_costs =
      length-map (costs model) (signed (sense_of model.objective))
      ∙ length-append (flat_map (row_costs at) model.rows)
      (flat_map (λ g. own_bounds g.set) model.groups)
      ∙ ap₂ ◌+◌ (length-costs at (λ p q. p ≡ q) equal_adds at model.rows row_sets)
      (length-own model.groups)

  -- the dual's value at a point
  value_is : (v : List Rational)
      → objective_value (dual_of_model model) v
      ≡ value_of (objective_function model.objective) at
      +ℚ signed (sense_of model.objective)
      (dot (costs model) (numbers_from (at_point (dual_of_model model) v) 0
      (first_own + own_total model.groups)))
  value_is v =
      let x : Address → Rational = at_point (dual_of_model model) v in
      let qs : List Rational = map (signed (sense_of model.objective)) (costs model) in
      value_from 0 qs (value_of (objective_function model.objective) at) x
      ∙ ap (λ s. value_of (objective_function model.objective) at +ℚ s)
      (ap (λ n. dot qs (numbers_from x 0 n)) length-all_costs
      ∙ signed_dot (sense_of model.objective) (costs model)
      (numbers_from x 0 (first_own + own_total model.groups)))

  value_parts : (v : List Rational)
      → objective_value (dual_of_model model) v
      ≡ (objective_constant model +ℚ slope (objective_function model.objective) at)
      +ℚ signed (sense_of model.objective)
      (dot (costs model) (numbers_from (at_point (dual_of_model model) v) 0
      (first_own + own_total model.groups)))
  unfolding value_of
  value_parts v = value_is v

  count_of_variables : length (variables (dual_of_model model)) ≡ size
  count_of_variables =
      sym (length-map (variables (dual_of_model model)) address_of)
      ∙ ap length (group_addresses 0 0 (new_groups model))
      ∙ length-addresses_from 0 size

  -- the numbers of a point of the dual, at its variables
  numbers_are : (v : List Rational) → length v ≡ size
      → numbers_from (at_point (dual_of_model model) v) 0 (first_own + own_total model.groups) ≡ v
  numbers_are v e =
      ap (numbers_from (at_point (dual_of_model model) v) 0) (sym size_is)
      ∙ first_point_at (new_groups model) v e

  abbrev start : ℕ
  start = 0 + first_own

  -- where the groups' own variables begin
  first_is : 0 + row_variables model ≡ start
  first_is = ap (λ n. 0 + n) row_variables_are

  begin_is : row_variables model ≡ start
  begin_is = omega (arith, row_variables_are)

  abbrev groups_of_rows : List NewGroup
  groups_of_rows = each_placed row_groups 1 model.rows

  abbrev groups_of_groups : List NewGroup
  groups_of_groups = each_placed group_groups 1 model.groups

  -- ---- from a feasible point

  module _ (v : List Rational) (feasible : IsFeasible (dual_of_model model) v) where
    abbrev point : Address → Rational
    point = at_point (dual_of_model model) v

    hold : HoldFrom point 0 (new_groups model)
    hold = hold_from_groups point 0 0 (new_groups model) feasible.groups

    parts : ArePartsOf point 0 model.rows
    parts = parts_of_rows point 1 0 model.rows (hold_first point 0 groups_of_rows groups_of_groups hold)

    own : AreOwnOf point start model.groups
    own =
        subst (λ n. AreOwnOf point n model.groups) first_is
        (own_of_groups point 1 (0 + row_variables model) model.groups
        (hold_second point 0 groups_of_rows groups_of_groups hold))

    left : AreGroupsLeft model point start model.groups
    left =
        subst (λ n. AreGroupsLeft model point n model.groups) begin_is
        (left_from_rows model point 0 1 (row_variables model) model.groups group_sets behind
        feasible.rows)

    abbrev duals : List (List Rational)
    duals = given point

    abbrev left_duals : List Rational
    left_duals = carried_variables model duals

    meet : All (HasReducedCost model duals left_duals) (addresses_of (variables model))
    meet =
        each_same (at_point model left_duals) (carried_variable model duals)
        (all_addresses model.groups)
        (point_at model.groups left_duals valid.consistent.variables_rise
        (length-map (all_addresses model.groups) (carried_variable model duals)))

    are_right : AreRightDuals model duals left_duals
    are_right = record {
      duals = record {
        each_row = length-rows_duals point 0 model.rows;
        each_variable =
            length-map (all_addresses model.groups) (carried_variable model duals)
            ∙ length-map (variables model) address_of;
        duals =
            All-append HasDuals (rows_with duals model.rows)
            (groups_with (at_point model left_duals) model.groups)
            (duals_of_rows point 0 model.rows row_sets parts)
            (duals_of_groups model point (at_point model left_duals) start model.groups
            (same point left_duals meet) left);
      };
      equations = meet;
    }

    is_no_better : ¬ (IsBetter (sense_of (dual_of_model model).objective)
        (objective_value (dual_of_model model) v) (dual_objective model duals left_duals))
    is_no_better =
        subst (λ q. ¬ (IsBetter (opposite (sense_of model.objective)) q
        (dual_objective model duals left_duals))) (sym (value_parts v))
        (no_better (sense_of model.objective) (objective_constant model)
        (slope (objective_function model.objective) at)
        (dot (costs model) (numbers_from point 0 (first_own + own_total model.groups)))
        (dual_gap model duals left_duals)
        (counts point left_duals meet (λ p q. p ≤ℚ q) at_most_adds
        (parts_count point at 0 model.rows row_sets parts)
        (own_count model point (at_point model left_duals) at start model.groups group_sets
        (same point left_duals meet) own left)))

    carried_so : carried_rows model.rows v ≡ duals
    carried_so =
        ap (carried_rows model.rows) (sym (numbers_are v (feasible.size ∙ count_of_variables)))
        ∙ carried_are point 0 (own_total model.groups) model.rows

    carries_to : CarriesTo model v (carried_rows model.rows v)
        (carried_variables model (carried_rows model.rows v))
    carries_to =
        subst (λ rows. CarriesTo model v rows (carried_variables model rows)) (sym carried_so)
        (record { right = are_right; no_better = is_no_better })

  -- ---- from right duals

  module _ (rows : List (List Rational)) (vars : List Rational)
      (right : AreRightDuals model rows vars) where
    abbrev of_variables : Address → Rational
    of_variables = at_point model vars

    abbrev made : List Rational
    made = row_numbers model.rows rows ++ own_numbers of_variables model.groups

    abbrev made_point : Address → Rational
    made_point = at_point (dual_of_model model) made

    first_duals : All HasDuals (rows_with rows model.rows)
    first_duals = all_first HasDuals (rows_with rows model.rows)
        (groups_with of_variables model.groups) right.duals.duals

    second_duals : All HasDuals (groups_with of_variables model.groups)
    second_duals = all_second HasDuals (rows_with rows model.rows)
        (groups_with of_variables model.groups) right.duals.duals

    length-made : length made ≡ size
    length-made =
        length-append (row_numbers model.rows rows) (own_numbers of_variables model.groups)
        ∙ ap₂ ◌+◌ (length-row_numbers model.rows rows right.duals.each_row first_duals)
        (length-own_numbers of_variables model.groups)
        ∙ sym size_is

    laid : (numbers_from made_point 0 first_own ≡ row_numbers model.rows rows)
        × (numbers_from made_point start (own_total model.groups)
        ≡ own_numbers of_variables model.groups)
    laid =
        joined_alike (numbers_from made_point 0 first_own)
        (numbers_from made_point start (own_total model.groups)) (row_numbers model.rows rows)
        (own_numbers of_variables model.groups)
        (length-numbers_from made_point 0 first_own
        ∙ sym (length-row_numbers model.rows rows right.duals.each_row first_duals))
        (sym (numbers_from-append made_point 0 first_own (own_total model.groups))
        ∙ numbers_are made length-made)

    same_rows : given made_point ≡ rows
    same_rows = laid_duals made_point 0 model.rows rows right.duals.each_row row_sets first_duals laid.0

    met : All (HasReducedCost model (given made_point) vars) (addresses_of (variables model))
    met = subst (λ ys. All (HasReducedCost model ys vars) (addresses_of (variables model)))
        (sym same_rows) right.equations

    made_left : AreGroupsLeft model made_point start model.groups
    made_left = laid_left made_point of_variables model start model.groups
        (same made_point vars met) second_duals laid.1

    is_feasible : IsFeasible (dual_of_model model) made
    is_feasible = record {
      size = length-made ∙ sym count_of_variables;
      groups = groups_from_hold made_point 0 0 (new_groups model)
          (hold_both made_point 0 groups_of_rows groups_of_groups
          (rows_from_parts made_point 1 0 model.rows
          (laid_parts made_point 0 model.rows rows right.duals.each_row first_duals laid.0))
          (groups_of_own made_point 1 (0 + row_variables model) model.groups
          (subst (λ n. AreOwnOf made_point n model.groups) (sym first_is)
          (laid_own made_point of_variables start model.groups laid.1))));
      rows = rows_from_left model made_point 0 1 (row_variables model) model.groups group_sets behind
          (subst (λ n. AreGroupsLeft model made_point n model.groups) (sym begin_is) made_left);
    }

    back_to_rows : carried_rows model.rows made ≡ rows
    back_to_rows =
        ap (carried_rows model.rows) (sym (numbers_are made length-made))
        ∙ carried_are made_point 0 (own_total model.groups) model.rows ∙ same_rows

    back_to_variables : carried_variables model rows ≡ vars
    back_to_variables =
        sym (map_same_on of_variables (carried_variable model rows) (all_addresses model.groups)
        right.equations)
        ∙ point_at model.groups vars valid.consistent.variables_rise
        (right.duals.each_variable ∙ sym (length-map (variables model) address_of))

    same_objective : objective_value (dual_of_model model) made ≡ dual_objective model rows vars
    same_objective =
        value_parts made
        ∙ same_value (sense_of model.objective) (objective_constant model)
        (slope (objective_function model.objective) at)
        (dot (costs model) (numbers_from made_point 0 (first_own + own_total model.groups)))
        (dual_gap model (given made_point) vars)
        (counts made_point vars met (λ p q. p ≡ q) equal_adds
        (laid_count made_point at 0 model.rows rows right.duals.each_row row_sets first_duals laid.0)
        (laid_count_own made_point of_variables at start model.groups group_sets laid.1))
        ∙ ap (λ ys. dual_objective model ys vars) same_rows

    comes_from : (x : List Rational) × IsCarriedFrom model rows vars x
    comes_from = (
      made,
      record {
        feasible = is_feasible;
        gives_rows = back_to_rows;
        gives_variables = back_to_variables;
        value = same_objective;
      },
    )

  -- the theorem
  pub holds_duals : HoldsDuals model
  holds_duals = record { carries = carries_to; carried = comes_from }
