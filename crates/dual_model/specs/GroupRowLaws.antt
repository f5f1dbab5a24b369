-- The duals of a model's variables at a point of its dual: that they are in the dual sets where the
-- point meets the dual's rows, and what they and the groups' own variables count.
use Rattle.std.specs.Prelude.{◌≡◌, ℕ, suc, ◌+◌, ◌≤◌, Bool, true, false, if◌then◌else◌, List, [], ◌∷◌, ◌++◌, All, flat_map, length, map, refl}
use Rattle.std.proofs.Common.{sym, ◌∙◌, ap, ap₂, arith, subst}
use Rattle.std.proofs.lemmas.List.{length-append, length-map}
use Rattle.std.proofs.lemmas.List.Elements.{All-append, All-cons, All-head, All-nil, All-tail}
use Rattle.map_laws.specs.EachLaws.{all_first, all_second, map_same_on}
use Rattle.ratio_core.specs.Rational.{Rational, neg_ℚ, one_ℚ, zero_ℚ, ◌*ℚ◌, ◌+ℚ◌, ◌-ℚ◌}
use Rattle.rational_laws.specs.Dot.{dot, negated}
use Rattle.rational_laws.specs.DotLaws.{dot-append, dot_comm, dot_map_zero, length-negated}
use Rattle.rational_laws.specs.Field.{+ℚ-zero, +ℚ_inner_comm, neg_ℚ-*ℚ, neg_ℚ-zero, one-*ℚ}
use Rattle.rational_laws.specs.Ring.{as_expression, by_ring, ring₄}
use Rattle.aff_core.specs.Address.{Address, address_cmp}
use Rattle.aff_core.specs.Function.{Function, value_of, variable}
use Rattle.aff_core.specs.FunctionLaws.{constant-variable}
use Rattle.aff_core.specs.FunctionLists.{constants, slopes, values}
use Rattle.linear_laws.specs.ListLaws.{evaluations_slopes, evaluations_variables}
use Rattle.set_core.specs.declared.set.Set.{Set}
use Rattle.set_core.specs.declared.set.Set.TheVariants.{EqualTo, Interval, Zeros}
use Rattle.set_core.specs.Membership.{In, dual_of, low_of}
use Rattle.set_core.specs.Shapes.{IsSetOf, is_scalar}
use Rattle.set_core.specs.Vectors.{first_of, others_of}
use Rattle.dual_laws.specs.Held.{DualRow, HasDuals, gap, gap_of, pull, pull_of}
use Rattle.user_model.specs.declared.function.UserFunc.TheVariants.{AffineVec}
use Rattle.user_model.specs.declared.group.Group.{Group}
use Rattle.user_model.specs.declared.row.Row.{Row}
use Rattle.user_model.specs.Model.{ModelValue, variable_address}
use Rattle.certificates.specs.Points.{addresses_of, all_addresses, functions_of, variables_at}
use Rattle.certificates.specs.Duals.{group_with, groups_with}
use Rattle.certificates.specs.PointLaws.{split_addresses}
use Rattle.dual_parts.specs.Parts.{AreOwn, IsLeftOfDuals, own_bounds, shifts_on}
use Rattle.dual_parts.specs.GroupPartLaws.{left_dual}
use Rattle.group_numbering.specs.HoldLaws.{HoldFrom, hold_both, hold_first, hold_second}
use Rattle.group_numbering.specs.NewGroups.{NewGroup, variable_count}
use Rattle.group_numbering.specs.NumberLaws.{length-numbers_from, numbers_from, numbers_from-append, value_from, value_from_two}
use Rattle.group_numbering.specs.PlaceLaws.{count-append}
use Rattle.dual_model.specs.DualOf.{column_in, cost_of, each_placed, function_in, group_groups, group_rows, left_for, left_less_two, own_groups, row_for, scalar_function}
use Rattle.dual_model.specs.RowPartLaws.{AddsUp, parts_from_two, two_from_parts}

-- the set of a group is one for its variables
abbrev pub HasGroupSetOf : Group → Type 0
HasGroupSetOf g = IsSetOf (length (addresses_of g.vars)) g.set

-- ---- functions for sets

functions_alone : (fs : List Function) → functions_of (scalar_function fs) ≡ fs
functions_alone [] = refl
functions_alone (f ∷ []) = refl
functions_alone (f ∷ g ∷ fs) = refl

functions_by : (b : Bool) (fs : List Function)
    → functions_of (if b then scalar_function fs else AffineVec fs) ≡ fs
functions_by true fs = functions_alone fs
functions_by false fs = refl

pub functions_in : (set : Set) (fs : List Function) → functions_of (function_in set fs) ≡ fs
functions_in set fs = functions_by (is_scalar set) fs

values_map : (f : Address → Function) (vs : List Address) (x : Address → Rational)
    → values (map f vs) x ≡ map (λ v. value_of (f v) x) vs
values_map f [] x = refl
values_map f (v ∷ vs) x = ap (λ qs. value_of (f v) x ∷ qs) (values_map f vs x)

-- ---- own variables

abbrev pub own_total : List Group → ℕ
own_total [] = 0
own_total (g ∷ gs) = length (own_bounds g.set) + own_total gs

count-own_groups : (k : ℕ) (set : Set) → variable_count (own_groups k set) ≡ length (own_bounds set)
count-own_groups k (Interval l u) = refl
count-own_groups k set = refl

pub count-groups : (k : ℕ) (groups : List Group)
    → variable_count (each_placed group_groups k groups) ≡ own_total groups
count-groups k [] = refl
count-groups k (g ∷ groups) =
    count-append (group_groups k g) (each_placed group_groups (suc k) groups)
    ∙ ap₂ ◌+◌ (count-own_groups k g.set) (count-groups (suc k) groups)

pub length-own : (groups : List Group)
    → length (flat_map (λ g. own_bounds g.set) groups) ≡ own_total groups
length-own [] = refl
length-own (g ∷ groups) =
    length-append (own_bounds g.set) (flat_map (λ g. own_bounds g.set) groups)
    ∙ ap (λ n. length (own_bounds g.set) + n) (length-own groups)

module _ (x : Address → Rational) where
  own_from_groups : (k n : ℕ) (set : Set) → HoldFrom x n (own_groups k set)
      → AreOwn set (numbers_from x n (length (own_bounds set)))
  own_from_groups k n (Interval l u) h = parts_from_two x l u 112 113 k n h
  own_from_groups k n set h = tt

  groups_from_own : (k n : ℕ) (set : Set) → AreOwn set (numbers_from x n (length (own_bounds set)))
      → HoldFrom x n (own_groups k set)
  groups_from_own k n (Interval l u) h = two_from_parts x l u 112 113 k n h
  groups_from_own k n set h = tt

  -- the own variables of each group
  abbrev pub AreOwnOf : ℕ → List Group → Type 0
  AreOwnOf n [] = Unit {0}
  AreOwnOf n (g ∷ groups) =
      AreOwn g.set (numbers_from x n (length (own_bounds g.set)))
      × AreOwnOf (n + length (own_bounds g.set)) groups

  pub own_of_groups : (k n : ℕ) (groups : List Group)
      → HoldFrom x n (each_placed group_groups k groups) → AreOwnOf n groups
  own_of_groups k n [] h = tt
  own_of_groups k n (g ∷ groups) h =
      let own : List NewGroup = group_groups k g in
      let rest : List NewGroup = each_placed group_groups (suc k) groups in (
        own_from_groups k n g.set (hold_first x n own rest h),
        own_of_groups (suc k) (n + length (own_bounds g.set)) groups
            (subst (λ m. HoldFrom x (n + m) rest) (count-own_groups k g.set)
            (hold_second x n own rest h)),
      )

  pub groups_of_own : (k n : ℕ) (groups : List Group) → AreOwnOf n groups
      → HoldFrom x n (each_placed group_groups k groups)
  groups_of_own k n [] h = tt
  groups_of_own k n (g ∷ groups) h =
      let own : List NewGroup = group_groups k g in
      let rest : List NewGroup = each_placed group_groups (suc k) groups in
      hold_both x n own rest (groups_from_own k n g.set h.0)
      (subst (λ m. HoldFrom x (n + m) rest) (sym (count-own_groups k g.set))
      (groups_of_own (suc k) (n + length (own_bounds g.set)) groups h.1))

-- ---- the dual's rows

abbrev RowIn : (Address → Rational) → Row → Type 0
RowIn x r = In r.set (values (functions_of r.func) x)

module _ (model : ModelValue) (x : Address → Rational) where
  -- what the objective and the rows leave for a variable, at the point
  abbrev pub left_at : Address → Rational
  left_at v = value_of (left_for model v) x

  two_less : (c d p q : Rational) → c +ℚ (d +ℚ (neg_ℚ one_ℚ *ℚ p +ℚ (neg_ℚ one_ℚ *ℚ q +ℚ zero_ℚ)))
      ≡ (c +ℚ d) -ℚ p -ℚ q
  two_less c d p q =
      ap (λ s. c +ℚ (d +ℚ s)) (ap₂ ◌+ℚ◌ (minus_one p) (+ℚ-zero _ ∙ minus_one q))
      ∙ regrouped (c) (d) (neg_ℚ p) (neg_ℚ q)
    where
      minus_one : (p : Rational) → neg_ℚ one_ℚ *ℚ p ≡ neg_ℚ p
      minus_one p = neg_ℚ-*ℚ one_ℚ p ∙ ap neg_ℚ (one-*ℚ p)

      regrouped : (c d p q : Rational) → c +ℚ (d +ℚ (p +ℚ q)) ≡ ((c +ℚ d) +ℚ p) +ℚ q
      regrouped = ring₄ _ (λ ρ. simp as_expression (by_ring ρ _ _ refl))

  value_less_two : (n : ℕ) (v : Address) → length (column_in model.rows v) ≤ n
      → value_of (left_less_two model n v) x
      ≡ left_at v -ℚ x (variable_address n) -ℚ x (variable_address (suc n))
  value_less_two n v h =
      let qs : List Rational = negated (column_in model.rows v) in
      let none : 0 + length qs ≡ length qs = omega arith in
      value_from_two 0 qs n (neg_ℚ one_ℚ ∷ neg_ℚ one_ℚ ∷ []) (cost_of model v) x
      (omega (arith, h, none, length-negated (column_in model.rows v)))
      ∙ two_less (cost_of model v) (dot qs (numbers_from x 0 (length qs))) (x (variable_address n))
      (x (variable_address (suc n)))
      ∙ ap (λ s. s -ℚ x (variable_address n) -ℚ x (variable_address (suc n)))
      (sym (value_from 0 qs (cost_of model v) x))

  -- what a row of the dual asks of the variables of a group, whose own variables are those from
  -- the n-th on
  abbrev LeftFor : ℕ → List Address → Set → Type 0
  LeftFor n vs set = IsLeftOfDuals set (map left_at vs) (numbers_from x n (length (own_bounds set)))

  first_less : (n : ℕ) (vs : List Address) → length vs ≡ 1
      → ((v : Address) → length (column_in model.rows v) ≤ n)
      → first_of (values (map (left_less_two model n) vs) x)
      ≡ first_of (map left_at vs) -ℚ first_of (numbers_from x n 2)
      -ℚ first_of (others_of (numbers_from x n 2))
  first_less n [] e h = absurd (omega (arith, e))
  first_less n (v ∷ vs) e h = value_less_two n v (h v)

  in_dual : (set : Set) (vs : List Address)
      → values (functions_of (function_in (dual_of set) (map (left_for model) vs))) x
      ≡ map left_at vs
  in_dual set vs =
      ap (λ fs. values fs x) (functions_in (dual_of set) (map (left_for model) vs))
      ∙ values_map (left_for model) vs x

  module _ (id k n : ℕ) (vs : List Address)
      (behind : (v : Address) → length (column_in model.rows v) ≤ n) where
    left_from_row : (set : Set) → IsSetOf (length vs) set → All (RowIn x) (row_for model id k n vs set)
        → LeftFor n vs set
    left_from_row (EqualTo a) s h = tt
    left_from_row (Zeros d) s h = tt
    left_from_row (Interval l u) s h =
        sym (first_less n vs (sym s.dimension) behind)
        ∙ ap (λ fs. first_of (values fs x))
        (sym (functions_in (EqualTo zero_ℚ) (map (left_less_two model n) vs)))
        ∙ All-head (RowIn x) _ [] h
    left_from_row set s h =
        subst (In (dual_of set)) (in_dual set vs) (All-head (RowIn x) _ [] h)

    row_from_left : (set : Set) → IsSetOf (length vs) set → LeftFor n vs set
        → All (RowIn x) (row_for model id k n vs set)
    row_from_left (EqualTo a) s h = All-nil (RowIn x)
    row_from_left (Zeros d) s h = All-nil (RowIn x)
    row_from_left (Interval l u) s h =
        All-cons (RowIn x) _ []
        (ap (λ fs. first_of (values fs x))
        (functions_in (EqualTo zero_ℚ) (map (left_less_two model n) vs))
        ∙ first_less n vs (sym s.dimension) behind ∙ h) (All-nil (RowIn x))
    row_from_left set s h =
        All-cons (RowIn x) _ [] (subst (In (dual_of set)) (sym (in_dual set vs)) h)
        (All-nil (RowIn x))

  -- for each group
  abbrev pub AreGroupsLeft : ℕ → List Group → Type 0
  AreGroupsLeft n [] = Unit {0}
  AreGroupsLeft n (g ∷ groups) =
      LeftFor n (addresses_of g.vars) g.set × AreGroupsLeft (n + length (own_bounds g.set)) groups

  pub left_from_rows : (id k n : ℕ) (groups : List Group) → All HasGroupSetOf groups
      → ((v : Address) → length (column_in model.rows v) ≤ n)
      → All (RowIn x) (group_rows model id k n groups) → AreGroupsLeft n groups
  left_from_rows id k n [] sets behind h = tt
  left_from_rows id k n (g ∷ groups) sets behind h =
      let own : List Row = row_for model id k n (addresses_of g.vars) g.set in
      let m : ℕ = n + length (own_bounds g.set) in
      let rest : List Row = group_rows model (id + length own) (suc k) m groups in (
        left_from_row id k n (addresses_of g.vars) behind g.set (All-head HasGroupSetOf g groups sets)
            (all_first (RowIn x) own rest h),
        left_from_rows (id + length own) (suc k) m groups (All-tail HasGroupSetOf g groups sets)
            (λ v. let b = behind v in omega (arith, b)) (all_second (RowIn x) own rest h),
      )

  pub rows_from_left : (id k n : ℕ) (groups : List Group) → All HasGroupSetOf groups
      → ((v : Address) → length (column_in model.rows v) ≤ n)
      → AreGroupsLeft n groups → All (RowIn x) (group_rows model id k n groups)
  rows_from_left id k n [] sets behind h = All-nil (RowIn x)
  rows_from_left id k n (g ∷ groups) sets behind h =
      let own : List Row = row_for model id k n (addresses_of g.vars) g.set in
      let m : ℕ = n + length (own_bounds g.set) in
      All-append (RowIn x) own (group_rows model (id + length own) (suc k) m groups)
      (row_from_left id k n (addresses_of g.vars) behind g.set (All-head HasGroupSetOf g groups sets)
      h.0)
      (rows_from_left (id + length own) (suc k) m groups (All-tail HasGroupSetOf g groups sets)
      (λ v. let b = behind v in omega (arith, b)) h.1)

  -- ---- duals of the groups

  module _ (w : Address → Rational) where
    abbrev pub IsLeftAt : Address → Type 0
    IsLeftAt v = w v ≡ left_at v

    pub duals_of_groups : (n : ℕ) (groups : List Group) → All IsLeftAt (all_addresses groups)
        → AreGroupsLeft n groups → All HasDuals (groups_with w groups)
    duals_of_groups n [] same h = All-nil HasDuals
    duals_of_groups n (g ∷ groups) same h =
        let vs : List Address = addresses_of g.vars in
        let all = subst (All IsLeftAt) (split_addresses g groups) same in
        let own = all_first IsLeftAt vs (all_addresses groups) all in
        All-cons HasDuals (group_with w g) (groups_with w groups) (record {
          size = length-map vs w ∙ sym (length-map vs (variable {R = address_cmp}));
          dual = subst (In (dual_of g.set)) (sym (map_same_on w left_at vs own))
              (left_dual g.set (map left_at vs) (numbers_from x n (length (own_bounds g.set))) h.0);
        }) (duals_of_groups (n + length (own_bounds g.set)) groups
        (all_second IsLeftAt vs (all_addresses groups) all) h.1)

-- ---- what own variables and duals count, for at most and for equal

slopes_variables : (vs : List Address) (b : Address → Rational)
    → slopes (variables_at vs) b ≡ map b vs
slopes_variables vs b =
    sym (evaluations_slopes (variables_at vs) b) ∙ evaluations_variables zero_ℚ vs b

constants_variables : (vs : List Address) → constants (variables_at vs) ≡ map (λ _. zero_ℚ) vs
constants_variables [] = refl
constants_variables (v ∷ vs) =
    ap₂ (λ q qs. q ∷ qs) (constant-variable address_cmp v) (constants_variables vs)

no_constants : (ws : List Rational) (vs : List Address) (low : Rational)
    → low ≡ low -ℚ dot ws (constants (variables_at vs))
no_constants ws vs low =
    sym (ap (λ q. low -ℚ q) (ap (dot ws) (constants_variables vs) ∙ dot_map_zero ws vs)
    ∙ ap (λ q. low +ℚ q) neg_ℚ-zero ∙ +ℚ-zero low)

module _ (x w : Address → Rational) (R : Rational → Rational → Type 0) (order : AddsUp R)
    (at : Address → Rational) where
  -- the group's variables at their bounds
  abbrev pub IsShift : Group → Type 0
  IsShift g = map at (addresses_of g.vars) ≡ shifts_on g.set (length (addresses_of g.vars))

  abbrev pub CountOwn : ℕ → List Group → Type 0
  CountOwn n [] = Unit {0}
  CountOwn n (g ∷ groups) =
      let ws = map w (addresses_of g.vars) in
      let ps = numbers_from x n (length (own_bounds g.set)) in
      R (dot ps (own_bounds g.set) +ℚ dot ws (shifts_on g.set (length (addresses_of g.vars))))
      (low_of g.set ws) × CountOwn (n + length (own_bounds g.set)) groups

  group_counts : (n : ℕ) (g : Group) → IsShift g
      → R (dot (numbers_from x n (length (own_bounds g.set))) (own_bounds g.set)
      +ℚ dot (map w (addresses_of g.vars)) (shifts_on g.set (length (addresses_of g.vars))))
      (low_of g.set (map w (addresses_of g.vars)))
      → R (dot (own_bounds g.set) (numbers_from x n (length (own_bounds g.set)))
      +ℚ pull_of (group_with w g) at) (gap_of (group_with w g))
  group_counts n g shift h =
      let vs : List Address = addresses_of g.vars in
      let ws : List Rational = map w vs in
      let ps : List Rational = numbers_from x n (length (own_bounds g.set)) in
      subst (λ q. R q (gap_of (group_with w g)))
      (ap₂ ◌+ℚ◌ (dot_comm ps (own_bounds g.set))
      (ap (dot ws) (sym shift ∙ sym (slopes_variables vs at))))
      (subst (λ q. R (dot ps (own_bounds g.set) +ℚ dot ws (shifts_on g.set (length vs))) q)
      (no_constants ws vs (low_of g.set ws)) h)

  pub groups_count : (n : ℕ) (groups : List Group) → All IsShift groups → CountOwn n groups
      → R (dot (flat_map (λ g. own_bounds g.set) groups) (numbers_from x n (own_total groups))
      +ℚ pull (groups_with w groups) at) (gap (groups_with w groups))
  groups_count n [] shifts h =
      subst (λ q. R q zero_ℚ) (sym (+ℚ-zero zero_ℚ)) (order.itself zero_ℚ)
  groups_count n (g ∷ groups) shifts h =
      let size : ℕ = length (own_bounds g.set) in
      let m : ℕ = n + size in
      let bounds : List Rational = flat_map (λ g. own_bounds g.set) groups in
      let own : Rational = dot (own_bounds g.set) (numbers_from x n size) in
      let rest : Rational = dot bounds (numbers_from x m (own_total groups)) in
      let first : DualRow = group_with w g in
      let others : List DualRow = groups_with w groups in
      subst (λ q. R q (gap (first ∷ others)))
      (sym (ap (λ q. q +ℚ pull (first ∷ others) at)
      (ap (dot (own_bounds g.set ++ bounds)) (numbers_from-append x n size (own_total groups))
      ∙ dot-append (own_bounds g.set) (numbers_from x n size) bounds
      (numbers_from x m (own_total groups)) (sym (length-numbers_from x n size)))
      ∙ +ℚ_inner_comm own rest (pull_of first at) (pull others at)))
      (order.sums (own +ℚ pull_of first at) (gap_of first) (rest +ℚ pull others at) (gap others)
      (group_counts n g (All-head IsShift g groups shifts) h.0)
      (groups_count m groups (All-tail IsShift g groups shifts) h.1))
