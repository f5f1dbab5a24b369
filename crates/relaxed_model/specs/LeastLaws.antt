-- The relaxation finds the least total violation of a model's soft rows. Each point that meets the
-- hard rows makes a point of the relaxation, whose objective is the point's total violation; and each
-- point of the relaxation has an objective of at least the total violation of its part. No objective
-- of the relaxation is below 0, so it is never unbounded.
--     IsLeastMissed  what an optimal point of the relaxation says of the model
use Rattle.std.specs.Prelude.{◌≡◌, ℕ, zero, suc, ◌+◌, ◌<◌, List, [], ◌∷◌, ◌++◌, All, length, map, replicate, refl}
use Rattle.std.proofs.Common.{ap, ap₂, arith, subst, sym, ◌∙◌}
use Rattle.std.proofs.lemmas.List.{length-append}
use Rattle.std.proofs.lemmas.List.Elements.{All-append, All-cons, All-head, All-nil, All-tail, All-weaker}
use Rattle.map_laws.specs.EachLaws.{all_first, all_second}
use Rattle.ratio_core.specs.Rational.{Rational, one_ℚ, zero_ℚ, ◌+ℚ◌, ◌≤ℚ◌}
use Rattle.rational_laws.specs.Dot.{dot}
use Rattle.rational_laws.specs.Field.{one-*ℚ, zero-+ℚ}
use Rattle.rational_laws.specs.Order.{nonneg_add, not_‹ℚ_from_≤ℚ, ≤ℚ_antisymm, ≤ℚ_from_not_‹ℚ, ≤ℚ_refl}
use Rattle.rational_laws.specs.Sums.{sum_ℚ}
use Rattle.aff_core.specs.Address.{Address, address_cmp}
use Rattle.aff_core.specs.Function.{slope, value_of, variable}
use Rattle.aff_core.specs.FunctionLaws.{constant-function_of}
use Rattle.aff_core.specs.FunctionLists.{slopes}
use Rattle.linear_laws.specs.ListLaws.{slope_variable}
use Rattle.set_core.specs.Membership.{In, recession}
use Rattle.set_core.specs.Vectors.{AllNonnegative}
use Rattle.user_model.specs.declared.group.Group.{Group}
use Rattle.user_model.specs.Model.{ModelValue, variable_address, variables}
use Rattle.user_model.specs.Valid.{IsValid}
use Rattle.certificates.specs.Points.{at_point, functions_of_group, objective_slope, objective_value}
use Rattle.certificates.specs.Feasible.{IsFeasible}
use Rattle.certificates.specs.Good.{IsOptimal, IsUnbounded}
use Rattle.certificates.specs.GoodLaws.{none_is_better}
use Rattle.group_numbering.specs.HoldLaws.{GroupIn, HoldFrom, groups_from_hold, hold_from_groups}
use Rattle.group_numbering.specs.NewGroups.{numbered_groups, terms_from}
use Rattle.group_numbering.specs.NumberLaws.{numbers_from, value_from}
use Rattle.relaxed_model.specs.FunctionLaws.{values_below}
use Rattle.relaxed_model.specs.OwnLaws.{IsOwnGroup, own_groups, own_rows}
use Rattle.relaxed_model.specs.PlacedLaws.{first_part, last_part, length-first_part, length-free_names, length-last_part, length-relaxed, own_numbers, parts_join, slack_numbers}
use Rattle.relaxed_model.specs.Relaxed.{hard_model, relaxed_model, slack_count, slack_group, slack_names, slack_violations, sum_from, total_violation, violations}
use Rattle.relaxed_model.specs.RowLaws.{AreEnoughFor, length-row_slacks, row_slacks, row_slacks_nonneg, row_slacks_sum, rows_enough, rows_relaxed}

-- The point meets the hard rows, and these are its violations of the soft rows, which add up to the
-- value. No point that meets the hard rows has a smaller total violation.
pub record IsLeastMissed (model : ModelValue) (value : Rational) (x own : List Rational) : Type 0 where
  pub feasible : IsFeasible (hard_model model) x
  pub each : own ≡ violations model x
  pub together : value ≡ total_violation model x
  pub least : (y : List Rational) → IsFeasible (hard_model model) y
      → value ≤ℚ total_violation model y

-- ---- the objective

length-ones : (k : ℕ) → length (replicate k one_ℚ) ≡ k
length-ones zero = refl
length-ones (suc k) = ap suc (length-ones k)

dot_ones : (x : Address → Rational) (n k : ℕ)
    → dot (replicate k one_ℚ) (numbers_from x n k) ≡ sum_ℚ (numbers_from x n k)
dot_ones x n zero = refl
dot_ones x n (suc k) =
    ap₂ ◌+ℚ◌ (one-*ℚ (x (variable_address n))) (dot_ones x (suc n) k)

value_sum : (x : Address → Rational) (n k : ℕ)
    → value_of (sum_from n k) x ≡ sum_ℚ (numbers_from x n k)
value_sum x n k =
    value_from n (replicate k one_ℚ) zero_ℚ x
    ∙ zero-+ℚ (dot (replicate k one_ℚ) (numbers_from x n (length (replicate k one_ℚ))))
    ∙ ap (λ j. dot (replicate k one_ℚ) (numbers_from x n j)) (length-ones k)
    ∙ dot_ones x n k

slope_sum : (x : Address → Rational) (n k : ℕ)
    → slope (sum_from n k) x ≡ sum_ℚ (numbers_from x n k)
unfolding value_of
slope_sum x n k =
    sym (ap (λ c. c +ℚ slope (sum_from n k) x)
    (constant-function_of address_cmp (terms_from n (replicate k one_ℚ)) zero_ℚ)
    ∙ zero-+ℚ (slope (sum_from n k) x))
    ∙ value_sum x n k

sum_nonneg : (qs : List Rational) → AllNonnegative qs → zero_ℚ ≤ℚ sum_ℚ qs
sum_nonneg [] h = ≤ℚ_refl zero_ℚ
sum_nonneg (q ∷ qs) h =
    nonneg_add q (sum_ℚ qs) (All-head (λ q. zero_ℚ ≤ℚ q) q qs h)
    (sum_nonneg qs (All-tail (λ q. zero_ℚ ≤ℚ q) q qs h))

-- ---- the slacks' groups

next : (n : ℕ) → suc n ≡ n + 1
next n = omega arith

hold_slacks : (x : Address → Rational) (n : ℕ) (names : List (List ℕ))
    → AllNonnegative (numbers_from x n (length names)) → HoldFrom x n (map slack_group names)
hold_slacks x n [] h = tt
hold_slacks x n (name ∷ names) h = (
  All-cons (λ q. zero_ℚ ≤ℚ q) (x (variable_address n)) []
      (All-head (λ q. zero_ℚ ≤ℚ q) (x (variable_address n)) (numbers_from x (suc n) (length names))
      h)
      (All-nil (λ q. zero_ℚ ≤ℚ q)),
  subst (λ m. HoldFrom x m (map slack_group names)) (next n)
      (hold_slacks x (suc n) names (All-tail (λ q. zero_ℚ ≤ℚ q) (x (variable_address n))
      (numbers_from x (suc n) (length names)) h)),
)

slacks_hold : (x : Address → Rational) (n : ℕ) (names : List (List ℕ))
    → HoldFrom x n (map slack_group names) → AllNonnegative (numbers_from x n (length names))
slacks_hold x n [] h = All-nil (λ q. zero_ℚ ≤ℚ q)
slacks_hold x n (name ∷ names) h =
    All-cons (λ q. zero_ℚ ≤ℚ q) (x (variable_address n)) (numbers_from x (suc n) (length names))
    (All-head (λ q. zero_ℚ ≤ℚ q) (x (variable_address n)) [] h.0)
    (slacks_hold x (suc n) names
    (subst (λ m. HoldFrom x m (map slack_group names)) (sym (next n)) h.1))

abbrev LeadsOn : (Address → Rational) → Group → Type 0
LeadsOn d g = In (recession g.set) (slopes (functions_of_group g) d)

slacks_lead : (d : Address → Rational) (id n : ℕ) (names : List (List ℕ))
    → All (LeadsOn d) (numbered_groups id n (map slack_group names))
    → AllNonnegative (numbers_from d n (length names))
slacks_lead d id n [] h = All-nil (λ q. zero_ℚ ≤ℚ q)
slacks_lead d id n (name ∷ names) h =
    let first : Group = record {
      id = id;
      vars = record { number = n; name = name } ∷ [];
      set = (slack_group name).set;
    } in
    let others : List Group = numbered_groups (suc id) (n + 1) (map slack_group names) in
    All-cons (λ q. zero_ℚ ≤ℚ q) (d (variable_address n)) (numbers_from d (suc n) (length names))
    (subst (λ q. zero_ℚ ≤ℚ q) (slope_variable (variable_address n) d)
    (All-head (λ q. zero_ℚ ≤ℚ q) (slope (variable {R = address_cmp} (variable_address n)) d) []
    (All-head (LeadsOn d) first others h)))
    (slacks_lead d (suc id) (suc n) names
    (subst (λ m. All (LeadsOn d) (numbered_groups (suc id) m (map slack_group names)))
    (sym (next n)) (All-tail (LeadsOn d) first others h)))

-- ---- points of the model and of its relaxation

module _ (model : ModelValue) (valid : IsValid model) where
  abbrev relaxed : ModelValue
  relaxed = relaxed_model model

  abbrev first : ℕ
  first = model.next.variable

  abbrev count : ℕ
  count = slack_count model.rows

  abbrev names : List (List ℕ)
  names = slack_names model

  abbrev slacks : List Group
  slacks = numbered_groups model.next.group first (map slack_group names)

  named : length names ≡ count
  named = length-free_names model count 1 count

  objective_is : (z : List Rational)
      → objective_value relaxed z ≡ sum_ℚ (numbers_from (at_point relaxed z) first count)
  objective_is z = value_sum (at_point relaxed z) first count

  -- no slope of the objective is below 0
  pub never_unbounded : (x d : List Rational) → ¬ (IsUnbounded relaxed x d)
  never_unbounded x d unbounded =
      not_‹ℚ_from_≤ℚ zero_ℚ (objective_slope relaxed d)
      (subst (λ q. zero_ℚ ≤ℚ q) (sym (slope_sum (at_point relaxed d) first count))
      (sum_nonneg (numbers_from (at_point relaxed d) first count)
      (subst (λ k. AllNonnegative (numbers_from (at_point relaxed d) first k)) named
      (slacks_lead (at_point relaxed d) model.next.group first names
      (all_second (LeadsOn (at_point relaxed d)) model.groups slacks unbounded.ray.groups)))))
      unbounded.improves

  module _ (x s : List Rational) (size : length x ≡ length (variables model))
      (slack_size : length s ≡ count) where
    abbrev outer : Address → Rational
    outer = at_point relaxed (x ++ s)

    abbrev inner : Address → Rational
    inner = at_point model x

    agree : (v : Address) → v.number < first → outer v ≡ inner v
    agree = own_numbers model valid.consistent x s size

    slacks_are : numbers_from outer first count ≡ s
    slacks_are = slack_numbers model valid.consistent x s size slack_size

    sum_is : objective_value relaxed (x ++ s) ≡ sum_ℚ s
    sum_is = objective_is (x ++ s) ∙ ap sum_ℚ slacks_are

    own_in : (p q : Address → Rational) → ((v : Address) → v.number < first → p v ≡ q v)
        → All (GroupIn p) model.groups → All (GroupIn q) model.groups
    own_in p q same h =
        All-weaker (λ g. IsOwnGroup first g × GroupIn p g) (GroupIn q)
        (λ g both. subst (In g.set) (values_below first (functions_of_group g) p q both.0 same)
        both.1) model.groups
        (λ k d end. (
          own_groups first model.groups valid.consistent.given_variables k d end,
          h k d end,
        ))

    -- slacks that the rows need make a feasible point
    fits : AllNonnegative s → s ≡ row_slacks inner model.rows
        → IsFeasible (hard_model model) x → IsFeasible relaxed (x ++ s)
    fits nonneg needed feasible = record {
      size = length-append x s ∙ ap₂ ◌+◌ size slack_size
          ∙ sym (length-relaxed model valid.consistent);
      groups = All-append (GroupIn outer) model.groups slacks
          (own_in inner outer (λ v h. sym (agree v h)) feasible.groups)
          (groups_from_hold outer model.next.group first (map slack_group names)
          (hold_slacks outer first names
          (subst (λ k. AllNonnegative (numbers_from outer first k)) (sym named)
          (subst AllNonnegative (sym slacks_are) nonneg))));
      rows = rows_relaxed first outer inner agree first (omega arith) model.rows
          (own_rows model valid) (slacks_are ∙ needed) feasible.rows;
    }

    -- the part of a feasible point meets the hard rows
    module _ (feasible : IsFeasible relaxed (x ++ s)) where
      nonneg : AllNonnegative (numbers_from outer first count)
      nonneg =
          subst (λ k. AllNonnegative (numbers_from outer first k)) named
          (slacks_hold outer first names (hold_from_groups outer model.next.group first
          (map slack_group names)
          (all_second (GroupIn outer) model.groups slacks feasible.groups)))

      enough : AreEnoughFor inner model.rows s
      enough =
          subst (AreEnoughFor inner model.rows) slacks_are
          (rows_enough first outer inner agree first (omega arith) model.rows
          (own_rows model valid) nonneg feasible.rows)

      meets_hard : IsFeasible (hard_model model) x
      meets_hard = record {
        size = size;
        groups = own_in outer inner agree
            (all_first (GroupIn outer) model.groups slacks feasible.groups);
        rows = enough.hard;
      }

  -- ---- a point that meets the hard rows, with the slacks that it needs

  module _ (y : List Rational) (feasible : IsFeasible (hard_model model) y) where
    abbrev needed : List Rational
    needed = row_slacks (at_point model y) model.rows

    pub extended_feasible : IsFeasible relaxed (y ++ needed)
    extended_feasible =
        fits y needed feasible.size (length-row_slacks (at_point model y) model.rows)
        (row_slacks_nonneg (at_point model y) model.rows) refl feasible

    pub extended_value : objective_value relaxed (y ++ needed) ≡ total_violation model y
    extended_value =
        sum_is y needed feasible.size (length-row_slacks (at_point model y) model.rows)
        ∙ row_slacks_sum (at_point model y) model.rows

  -- ---- an optimal point

  module _ (relaxed_valid : IsValid relaxed) (value : Rational) (z : List Rational)
      (rows : List (List Rational)) (vars : List Rational)
      (optimal : IsOptimal relaxed value z rows vars) where
    abbrev x : List Rational
    x = first_part model z

    abbrev s : List Rational
    s = last_part model z

    size : length x ≡ length (variables model)
    size = length-first_part model valid.consistent z optimal.feasible.size

    slack_size : length s ≡ count
    slack_size = length-last_part model valid.consistent z optimal.feasible.size

    both_feasible : IsFeasible relaxed (x ++ s)
    both_feasible = subst (IsFeasible relaxed) (sym (parts_join model z)) optimal.feasible

    least_slacks : AreEnoughFor (at_point model x) model.rows s
    least_slacks = enough x s size slack_size both_feasible

    value_is : sum_ℚ s ≡ value
    value_is =
        sym (sum_is x s size slack_size)
        ∙ ap (objective_value relaxed) (parts_join model z) ∙ sym optimal.primal

    no_less : (y : List Rational) → IsFeasible (hard_model model) y
        → value ≤ℚ total_violation model y
    no_less y feasible =
        subst (λ q. value ≤ℚ q) (extended_value y feasible)
        (≤ℚ_from_not_‹ℚ value
        (objective_value relaxed (y ++ row_slacks (at_point model y) model.rows))
        (none_is_better relaxed relaxed_valid value z rows vars optimal
        (y ++ row_slacks (at_point model y) model.rows) (extended_feasible y feasible)))

    together : value ≡ total_violation model x
    together =
        ≤ℚ_antisymm value (total_violation model x)
        (no_less x (meets_hard x s size slack_size both_feasible))
        (subst (λ q. total_violation model x ≤ℚ q) value_is least_slacks.least)

    pub least_is : IsLeastMissed model value (first_part model z)
        (slack_violations model.rows (last_part model z))
    least_is = record {
      feasible = meets_hard x s size slack_size both_feasible;
      each = least_slacks.exact (value_is ∙ together);
      together = together;
      least = no_less;
    }
