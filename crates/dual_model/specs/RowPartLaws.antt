-- The rows' duals that a point of the dual has: that they are in the dual sets where the point's
-- groups are in theirs, what they give as adjoint, and what their variables count.
use Rattle.std.specs.Prelude.{◌≡◌, ℕ, zero, suc, ◌+◌, List, [], ◌∷◌, ◌++◌, All, drop, flat_map, length, take, refl}
use Rattle.std.proofs.Common.{sym, ◌∙◌, ap, ap₂, arith, subst}
use Rattle.std.proofs.Math.Seq.{drop-append_seam, take-append_seam}
use Rattle.std.proofs.lemmas.List.{length-append, length-map}
use Rattle.std.proofs.lemmas.List.Elements.{All-cons, All-head, All-nil, All-tail}
use Rattle.ratio_core.specs.Rational.{Rational, neg_ℚ, zero_ℚ, ◌+ℚ◌, ◌-ℚ◌, ◌≤ℚ◌}
use Rattle.rational_laws.specs.Dot.{dot}
use Rattle.rational_laws.specs.DotLaws.{dot-append, dot_comm, length-minus, minus-dot}
use Rattle.rational_laws.specs.Field.{+ℚ_inner_comm, +ℚ-zero}
use Rattle.rational_laws.specs.Ring.{as_expression, by_ring, ring₃}
use Rattle.aff_core.specs.Address.{Address}
use Rattle.aff_core.specs.Function.{Function, coefficient, value_of}
use Rattle.aff_core.specs.FunctionLists.{coefficients, constants, slopes, values}
use Rattle.linear_laws.specs.ListLaws.{dot_values}
use Rattle.set_core.specs.declared.set.Set.{Set}
use Rattle.set_core.specs.declared.set.Set.TheVariants.{Interval}
use Rattle.set_core.specs.Membership.{In, dual_of, low_of}
use Rattle.set_core.specs.Shapes.{IsSetOf}
use Rattle.dual_laws.specs.Held.{DualRow, HasDuals, adjoint, gap, gap_of, pull, pull_of}
use Rattle.group_numbering.specs.HoldLaws.{HoldFrom, hold_both, hold_first, hold_second}
use Rattle.group_numbering.specs.NewGroups.{NewGroup, variable_count}
use Rattle.group_numbering.specs.NumberLaws.{length-numbers_from, numbers_from, numbers_from-append}
use Rattle.group_numbering.specs.PlaceLaws.{count-append}
use Rattle.user_model.specs.declared.row.Row.{Row}
use Rattle.user_model.specs.Model.{variable_address}
use Rattle.certificates.specs.Points.{functions_of}
use Rattle.certificates.specs.Duals.{row_with, rows_with}
use Rattle.dual_parts.specs.Parts.{AreParts, bounds_on, joined, on_parts, part_count}
use Rattle.dual_parts.specs.PartLaws.{dot-on_parts, joined_dual, length-bounds_on, length-joined, length-on_parts}
use Rattle.dual_model.specs.DualOf.{column_in, each_placed, groups_for, part_names, row_costs, row_groups, row_size, two_groups}
use Rattle.dual_model.specs.Carried.{carried_rows, part_size}

-- the set of a row is one for its components
abbrev pub HasSetOf : Row → Type 0
HasSetOf r = IsSetOf (row_size r) r.set

-- how many variables hold the duals of rows
abbrev pub total_parts : List Row → ℕ
total_parts [] = 0
total_parts (r ∷ rows) = part_size r + total_parts rows

pub length-part_names : (letter k i n : ℕ) → length (part_names letter k i n) ≡ n
length-part_names letter k i zero = refl
length-part_names letter k i (suc n) = ap suc (length-part_names letter k (suc i) n)

-- ---- how many variables are made

pub count-groups_for : (k n : ℕ) (set : Set) → variable_count (groups_for k n set) ≡ part_count set n
count-groups_for k n (Interval l u) = refl
count-groups_for k n set =
    let none : length (part_names 121 k 1 n) + 0 ≡ length (part_names 121 k 1 n) = omega arith in
    none ∙ length-part_names 121 k 1 n

pub count-rows : (k : ℕ) (rows : List Row)
    → variable_count (each_placed row_groups k rows) ≡ total_parts rows
count-rows k [] = refl
count-rows k (r ∷ rows) =
    count-append (row_groups k r) (each_placed row_groups (suc k) rows)
    ∙ ap₂ ◌+◌ (count-groups_for k (row_size r) r.set) (count-rows (suc k) rows)

-- what holds of equal numbers and of sums, as at most and equal do
pub record AddsUp (R : Rational → Rational → Type 0) : Type 0 where
  pub itself : (c : Rational) → R c c
  pub sums : (a b c d : Rational) → R a b → R c d → R (a +ℚ c) (b +ℚ d)

module _ (x : Address → Rational) where
  -- the duals of a row whose variables are those from the n-th on, and of rows
  abbrev pub row_duals : ℕ → Row → List Rational
  row_duals n r = joined r.set (numbers_from x n (part_size r))

  abbrev pub rows_duals : ℕ → List Row → List (List Rational)
  rows_duals n [] = []
  rows_duals n (r ∷ rows) = row_duals n r ∷ rows_duals (n + part_size r) rows

  -- the numbers of a row's variables, and those of what is behind
  split_numbers : (n p t m : ℕ)
      → numbers_from x n ((p + t) + m) ≡ numbers_from x n p ++ numbers_from x (n + p) (t + m)
  split_numbers n p t m =
      let same : (p + t) + m ≡ p + (t + m) = omega arith in
      ap (numbers_from x n) same ∙ numbers_from-append x n p (t + m)

  -- they are what the numbers are carried to
  pub carried_are : (n m : ℕ) (rows : List Row)
      → carried_rows rows (numbers_from x n (total_parts rows + m)) ≡ rows_duals n rows
  carried_are n m [] = refl
  carried_are n m (r ∷ rows) =
      let p : ℕ = part_size r in
      let own : List Rational = numbers_from x n p in
      let rest : List Rational = numbers_from x (n + p) (total_parts rows + m) in
      ap (carried_rows (r ∷ rows)) (split_numbers n p (total_parts rows) m)
      ∙ ap₂ (λ y ys. joined r.set y ∷ ys)
      (ap (λ k. take k (own ++ rest)) (sym (length-numbers_from x n p)) ∙ take-append_seam own rest)
      (ap (carried_rows rows) (ap (λ k. drop k (own ++ rest)) (sym (length-numbers_from x n p))
      ∙ drop-append_seam own rest)
      ∙ carried_are (n + p) m rows)

  -- ---- groups of the dual in their sets

  next : (n : ℕ) → n + 1 ≡ suc n
  next n = omega arith

  abbrev AtMost : ℕ → Type 0
  AtMost n = x (variable_address n) ≤ℚ zero_ℚ

  -- two variables are parts of an interval's dual
  pub parts_from_two : (l u : Rational) (above below k n : ℕ) → HoldFrom x n (two_groups above below k)
      → AreParts (Interval l u) (numbers_from x n 2)
  parts_from_two l u above below k n h = (h.0, subst AtMost (next n) h.1.0)

  pub two_from_parts : (l u : Rational) (above below k n : ℕ)
      → AreParts (Interval l u) (numbers_from x n 2) → HoldFrom x n (two_groups above below k)
  two_from_parts l u above below k n h = (h.0, (subst AtMost (sym (next n)) h.1, tt))

  pub parts_from_groups : (k n m : ℕ) (set : Set) → HoldFrom x n (groups_for k m set)
      → AreParts set (numbers_from x n (part_count set m))
  parts_from_groups k n m (Interval l u) h = parts_from_two l u 121 122 k n h
  parts_from_groups k n m set h =
      subst (λ j. In (dual_of set) (numbers_from x n j)) (length-part_names 121 k 1 m) h.0

  pub groups_from_parts : (k n m : ℕ) (set : Set)
      → AreParts set (numbers_from x n (part_count set m)) → HoldFrom x n (groups_for k m set)
  groups_from_parts k n m (Interval l u) h = two_from_parts l u 121 122 k n h
  groups_from_parts k n m set h = (
    subst (λ j. In (dual_of set) (numbers_from x n j)) (sym (length-part_names 121 k 1 m)) h,
    tt,
  )

  -- parts of each row's duals
  abbrev pub ArePartsOf : ℕ → List Row → Type 0
  ArePartsOf n [] = Unit {0}
  ArePartsOf n (r ∷ rows) =
      AreParts r.set (numbers_from x n (part_size r)) × ArePartsOf (n + part_size r) rows

  pub parts_of_rows : (k n : ℕ) (rows : List Row) → HoldFrom x n (each_placed row_groups k rows)
      → ArePartsOf n rows
  parts_of_rows k n [] h = tt
  parts_of_rows k n (r ∷ rows) h =
      let own : List NewGroup = row_groups k r in
      let rest : List NewGroup = each_placed row_groups (suc k) rows in (
        parts_from_groups k n (row_size r) r.set (hold_first x n own rest h),
        parts_of_rows (suc k) (n + part_size r) rows
            (subst (λ m. HoldFrom x (n + m) rest) (count-groups_for k (row_size r) r.set)
            (hold_second x n own rest h)),
      )

  pub rows_from_parts : (k n : ℕ) (rows : List Row) → ArePartsOf n rows
      → HoldFrom x n (each_placed row_groups k rows)
  rows_from_parts k n [] h = tt
  rows_from_parts k n (r ∷ rows) h =
      let own : List NewGroup = row_groups k r in
      let rest : List NewGroup = each_placed row_groups (suc k) rows in
      hold_both x n own rest (groups_from_parts k n (row_size r) r.set h.0)
      (subst (λ m. HoldFrom x (n + m) rest) (sym (count-groups_for k (row_size r) r.set))
      (rows_from_parts (suc k) (n + part_size r) rows h.1))

  -- ---- duals of the rows

  pub duals_of_rows : (n : ℕ) (rows : List Row) → All HasSetOf rows → ArePartsOf n rows
      → All HasDuals (rows_with (rows_duals n rows) rows)
  duals_of_rows n [] sets h = All-nil HasDuals
  duals_of_rows n (r ∷ rows) sets h =
      All-cons HasDuals (row_with (row_duals n r) r)
      (rows_with (rows_duals (n + part_size r) rows) rows) (record {
        size = length-joined (row_size r) r.set (numbers_from x n (part_size r))
            (All-head HasSetOf r rows sets) (length-numbers_from x n (part_size r));
        dual = joined_dual r.set (numbers_from x n (part_size r)) h.0;
      }) (duals_of_rows (n + part_size r) rows (All-tail HasSetOf r rows sets) h.1)

  pub length-rows_duals : (n : ℕ) (rows : List Row) → length (rows_duals n rows) ≡ length rows
  length-rows_duals n [] = refl
  length-rows_duals n (r ∷ rows) = ap suc (length-rows_duals (n + part_size r) rows)

  -- ---- what is weighed, row by row

  -- lists for each row's variables, one after the other, weighed by the numbers there
  weighed_on : (n : ℕ) (r : Row) (rows : List Row) (qs rest : List Rational)
      → length qs ≡ part_size r
      → dot (qs ++ rest) (numbers_from x n (part_size r + total_parts rows))
      ≡ dot qs (numbers_from x n (part_size r))
      +ℚ dot rest (numbers_from x (n + part_size r) (total_parts rows))
  weighed_on n r rows qs rest e =
      ap (dot (qs ++ rest)) (numbers_from-append x n (part_size r) (total_parts rows))
      ∙ dot-append qs (numbers_from x n (part_size r)) rest
      (numbers_from x (n + part_size r) (total_parts rows))
      (e ∙ sym (length-numbers_from x n (part_size r)))

  weighed_parts : (n : ℕ) (r : Row) (qs : List Rational) → HasSetOf r → length qs ≡ row_size r
      → dot (on_parts r.set qs) (numbers_from x n (part_size r)) ≡ dot (row_duals n r) qs
  weighed_parts n r qs set e =
      dot_comm (on_parts r.set qs) (numbers_from x n (part_size r))
      ∙ dot-on_parts (row_size r) r.set (numbers_from x n (part_size r)) qs set
      (length-numbers_from x n (part_size r)) e

  -- the adjoint is the column weighed
  pub adjoint_weighed : (n : ℕ) (rows : List Row) → All HasSetOf rows → (v : Address)
      → adjoint (rows_with (rows_duals n rows) rows) v
      ≡ dot (column_in rows v) (numbers_from x n (total_parts rows))
  adjoint_weighed n [] sets v = refl
  adjoint_weighed n (r ∷ rows) sets v =
      let qs : List Rational = coefficients (functions_of r.func) v in
      let set : HasSetOf r = All-head HasSetOf r rows sets in
      let size : length qs ≡ row_size r = length-map (functions_of r.func) (λ f. coefficient f v) in
      ap₂ ◌+ℚ◌ (sym (weighed_parts n r qs set size))
      (adjoint_weighed (n + part_size r) rows (All-tail HasSetOf r rows sets) v)
      ∙ sym (weighed_on n r rows (on_parts r.set qs) (column_in rows v)
      (length-on_parts (row_size r) r.set qs set size))

  -- ---- what variables count, for at most and for equal

  module _ (R : Rational → Rational → Type 0) (order : AddsUp R) (at : Address → Rational) where
    -- each row's parts count its least product, or at most that
    abbrev pub Count : ℕ → List Row → Type 0
    Count n [] = Unit {0}
    Count n (r ∷ rows) =
        R (dot (numbers_from x n (part_size r)) (bounds_on r.set (row_size r)))
        (low_of r.set (row_duals n r)) × Count (n + part_size r) rows

    taken_up : (b c s : Rational) → (b -ℚ (c +ℚ s)) +ℚ s ≡ b -ℚ c
    taken_up = ring₃ _ (λ ρ. simp as_expression (by_ring ρ _ _ refl))

    row_counted : (n : ℕ) (r : Row) → HasSetOf r
        → dot (row_costs at r) (numbers_from x n (part_size r))
        +ℚ pull_of (row_with (row_duals n r) r) at
        ≡ dot (numbers_from x n (part_size r)) (bounds_on r.set (row_size r))
        -ℚ dot (row_duals n r) (constants (functions_of r.func))
    row_counted n r set =
        let fs : List Function = functions_of r.func in
        let ys : List Rational = numbers_from x n (part_size r) in
        let bounds : List Rational = bounds_on r.set (row_size r) in
        let size : length (values fs at) ≡ row_size r = length-map fs (λ f. value_of f at) in
        let w : List Rational = row_duals n r in
        ap (λ q. q +ℚ dot w (slopes fs at))
        (minus-dot bounds (on_parts r.set (values fs at)) ys
        (length-bounds_on (row_size r) r.set set
        ∙ sym (length-on_parts (row_size r) r.set (values fs at) set size))
        ∙ ap₂ (λ p q. p -ℚ q) (dot_comm bounds ys)
        (weighed_parts n r (values fs at) set size ∙ dot_values w fs at))
        ∙ taken_up (dot ys bounds) (dot w (constants fs)) (dot w (slopes fs at))

    row_counts : (n : ℕ) (r : Row) → HasSetOf r
        → R (dot (numbers_from x n (part_size r)) (bounds_on r.set (row_size r)))
        (low_of r.set (row_duals n r))
        → R (dot (row_costs at r) (numbers_from x n (part_size r))
        +ℚ pull_of (row_with (row_duals n r) r) at) (gap_of (row_with (row_duals n r) r))
    row_counts n r set h =
        let less : Rational = neg_ℚ (dot (row_duals n r) (constants (functions_of r.func))) in
        subst (λ q. R q (gap_of (row_with (row_duals n r) r))) (sym (row_counted n r set))
        (order.sums (dot (numbers_from x n (part_size r)) (bounds_on r.set (row_size r)))
        (low_of r.set (row_duals n r)) less less h (order.itself less))

    length-row_costs : (r : Row) → HasSetOf r → length (row_costs at r) ≡ part_size r
    length-row_costs r set =
        let vs : List Rational = values (functions_of r.func) at in
        let size : length (on_parts r.set vs) ≡ part_size r =
        length-on_parts (row_size r) r.set vs set
        (length-map (functions_of r.func) (λ f. value_of f at)) in
        length-minus (bounds_on r.set (row_size r)) (on_parts r.set vs)
        (length-bounds_on (row_size r) r.set set ∙ sym size)
        ∙ size

    pub length-costs : (rows : List Row) → All HasSetOf rows
        → length (flat_map (row_costs at) rows) ≡ total_parts rows
    length-costs [] sets = refl
    length-costs (r ∷ rows) sets =
        length-append (row_costs at r) (flat_map (row_costs at) rows)
        ∙ ap₂ ◌+◌ (length-row_costs r (All-head HasSetOf r rows sets))
        (length-costs rows (All-tail HasSetOf r rows sets))

    pub rows_count : (n : ℕ) (rows : List Row) → All HasSetOf rows → Count n rows
        → R (dot (flat_map (row_costs at) rows) (numbers_from x n (total_parts rows))
        +ℚ pull (rows_with (rows_duals n rows) rows) at) (gap (rows_with (rows_duals n rows) rows))
    rows_count n [] sets h =
        subst (λ q. R q zero_ℚ) (sym (+ℚ-zero zero_ℚ)) (order.itself zero_ℚ)
    rows_count n (r ∷ rows) sets h =
        let set : HasSetOf r = All-head HasSetOf r rows sets in
        let m : ℕ = n + part_size r in
        let own : Rational = dot (row_costs at r) (numbers_from x n (part_size r)) in
        let rest : Rational = dot (flat_map (row_costs at) rows)
        (numbers_from x m (total_parts rows)) in
        let first : DualRow = row_with (row_duals n r) r in
        let others : List DualRow = rows_with (rows_duals m rows) rows in
        subst (λ q. R q (gap (first ∷ others)))
        (sym (ap (λ q. q +ℚ pull (first ∷ others) at) (weighed_on n r rows (row_costs at r)
        (flat_map (row_costs at) rows) (length-row_costs r set))
        ∙ +ℚ_inner_comm own rest (pull_of first at) (pull others at)))
        (order.sums (own +ℚ pull_of first at) (gap_of first) (rest +ℚ pull others at) (gap others)
        (row_counts n r set h.0) (rows_count m rows (All-tail HasSetOf r rows sets) h.1))
