-- A right answer of the equality form, read back, is right for the leaf model.
use Rattle.std.specs.Prelude.{◌≡◌, ℕ, ◌+◌, ◌<◌, List, [], ◌++◌, All, drop, length, map, slice_index_or, refl}
use Rattle.std.specs.FinMap as finite
use Rattle.std.proofs.Common.{sym, ◌∙◌, ap, ap₂, arith, subst}
use Rattle.std.proofs.lemmas.List.{get_or-append-add, get_or-map, get_or_append_left, get_or_default, length-append, length-map}
use Rattle.std.proofs.lemmas.List.Elements.{All-append, All-map, All-weaker}
use Rattle.std.proofs.lemmas.Simd.{map-map}
use Rattle.ratio_core.specs.Rational.{Rational, one_ℚ, zero_ℚ, ◌*ℚ◌, ◌+ℚ◌, ◌-ℚ◌, ◌≤ℚ◌, ◌‹ℚ◌}
use Rattle.rational_laws.specs.Dot.{dot}
use Rattle.rational_laws.specs.DotLaws.{dot_comm, dot_map_zero}
use Rattle.rational_laws.specs.Field.{+ℚ-zero, one-*ℚ, zero-*ℚ}
use Rattle.rational_laws.specs.Sums.{sum_by_ℚ}
use Rattle.aff_core.specs.Address.{Address}
use Rattle.aff_core.specs.Function.{coefficient, slope, value_of}
use Rattle.dual_laws.specs.Held.{HasDuals, adjoint, gap}
use Rattle.leaf_model.specs.LeafModel.{LeafModel}
use Rattle.simplex_core.specs.Answer.{IsRightAnswer}
use Rattle.simplex_core.specs.declared.answer.SolverAnswer.{SolverAnswer}
use Rattle.simplex_core.specs.declared.answer.SolverAnswer.TheVariants as solver
use Rattle.simplex_core.specs.StdForm.{equality_form}
use Rattle.simplex_form.specs.BoundedSums.{sum_to}
use Rattle.simplex_form.specs.Form.{Form, cost_at, left_side, weighted}
use Rattle.simplex_form.specs.Form as form
use Rattle.tableau_core.specs.Row.{cell}
use Rattle.equality_form.specs.CellLaws.{flipped-zero, sum_to_dot}
use Rattle.equality_form.specs.Columns.{parts, slacks}
use Rattle.equality_form.specs.ComponentLaws.{MayWeigh}
use Rattle.equality_form.specs.CostLaws.{cost_over_variables}
use Rattle.equality_form.specs.DualLaws.{IsPriced, Weigh, adjoint_by_equations, gap_by_equations, have_duals, held_is, held_with, left_over, length-by_rows, weigh_from, weighs}
use Rattle.equality_form.specs.EqualityForm.{column_costs, column_count, cost, form_of_leaves, numbers_at}
use Rattle.equality_form.specs.Equations.{Equation, equations, flipped, is_flipped, right_of, slack_of}
use Rattle.equality_form.specs.FeasibleLaws.{columns_dot, is_feasible}
use Rattle.equality_form.specs.KeyLaws.{keys_distinct, listed}
use Rattle.equality_form.specs.Native.{IsNativeModel}
use Rattle.equality_form.specs.ReadBack.{by_rows, duals_in, point_in, read_back, unflipped}
use Rattle.equality_form.specs.Right.{AreLeafDuals, IsRight, MayCost, held_rows}
use Rattle.equality_form.specs.Right as right
use Rattle.equality_form.specs.RowLaws.{from_none, right_at}
use Rattle.equality_form.specs.ShapeLaws.{length-costs_at}
use Rattle.equality_form.specs.SlackLaws.{IsNonneg}
use Rattle.equality_form.specs.WeightLaws.{length-unflipped, part_weighed, slack_weighed, slacks_within, weighed_rights}

module _ (leaves : LeafModel) (native : IsNativeModel leaves) where
  abbrev F : Form
  F = equality_form (form_of_leaves leaves)

  abbrev es : List Equation
  es = equations leaves

  -- ---- points

  nonneg_list : (x : List Rational) → length x ≡ column_count leaves
      → ((j : ℕ) → j < column_count leaves → zero_ℚ ≤ℚ cell x j) → All IsNonneg x
  nonneg_list x n h j d b =
      subst IsNonneg (sym (any_default x j d b)) (h j (subst (λ c. j < c) n b))
    where
      any_default : (x : List Rational) (j : ℕ) (d : Rational) → j < length x
          → slice_index_or x j d ≡ cell x j
      any_default x j d b = get_or_default x j d zero_ℚ b

  feasible_point : (x : List Rational) → length x ≡ column_count leaves
      → form.IsFormFeasible F (cell x)
      → right.IsLeafFeasible leaves one_ℚ (point_in leaves x)
  feasible_point x n f =
      is_feasible leaves native one_ℚ x n (nonneg_list x n f.nonneg)
      (λ i d h. f.meets i h ∙ right_at es i d h
      ∙ ap (flipped (is_flipped (slice_index_or es i d)))
      (sym (one-*ℚ (right_of (slice_index_or es i d)))))

  feasible_ray : (x : List Rational) → length x ≡ column_count leaves
      → ((j : ℕ) → j < column_count leaves → zero_ℚ ≤ℚ cell x j)
      → ((i : ℕ) → i < length es → left_side F (cell x) i ≡ zero_ℚ)
      → right.IsLeafFeasible leaves zero_ℚ (point_in leaves x)
  feasible_ray x n h k =
      is_feasible leaves native zero_ℚ x n (nonneg_list x n h)
      (λ i d b. k i b ∙ sym (flipped-zero (is_flipped (slice_index_or es i d)))
      ∙ ap (flipped (is_flipped (slice_index_or es i d)))
      (sym (zero-*ℚ (right_of (slice_index_or es i d)))))

  -- the cost of a point is the slope of the leaf model's cost
  cost_is : (x : List Rational) → length x ≡ column_count leaves
      → cost_at F (cell x) ≡ slope (cost leaves) (point_in leaves x)
  cost_is x n =
      subst (λ c. sum_to c (λ j. cell (column_costs leaves) j *ℚ cell x j)
      ≡ dot (column_costs leaves) x) n
      (sum_to_dot (column_costs leaves) x
      (length-costs_at (parts leaves) (slacks leaves) (cost leaves) ∙ sym n))
      ∙ columns_dot leaves (coefficient (cost leaves)) (map (λ slack. zero_ℚ) (slacks leaves)) x
      (omega (arith, n))
      ∙ ap (λ s. over_variables
      +ℚ s) (dot_comm (map (λ slack. zero_ℚ) (slacks leaves)) (drop (length (parts leaves)) x)
      ∙ dot_map_zero (drop (length (parts leaves)) x) (slacks leaves))
      ∙ +ℚ-zero over_variables
      ∙ sym (cost_over_variables leaves native (point_in leaves x))
    where
      over_variables : Rational
      over_variables = sum_by_ℚ (λ u. coefficient (cost leaves) u *ℚ point_in leaves x u)
          (finite.keys leaves.variables)

  -- ---- duals

  module _ (y : List Rational) (c : Address → Rational)
      (reduced : (j : ℕ) → j < column_count leaves
      → weighted F (cell y) (λ i. F.matrix i j) ≤ℚ cell
      (numbers_at (parts leaves) c ++ map (λ slack. zero_ℚ) (slacks leaves)) j) where
    w : List Rational
    w = unflipped (map is_flipped es) y

    length_w : length w ≡ length es
    unfolding w
    length_w = length-unflipped es y

    priced : All (IsPriced (cell w)) (slacks leaves)
    unfolding w
    priced j d h =
        subst (λ q. q ≤ℚ zero_ℚ) (slack_weighed (parts leaves) (slacks leaves) es y j d h
        (slacks_within es 0 (length es) (from_none (length es)) j d h))
        (subst (λ q. weighted F (cell y) (λ i. F.matrix i (length (parts leaves) + j)) ≤ℚ q)
        costs_nothing (reduced (length (parts leaves) + j) (omega (arith, h))))
      where
        costs_nothing : cell (numbers_at (parts leaves) c ++ map (λ slack. zero_ℚ) (slacks leaves))
            (length (parts leaves) + j) ≡ zero_ℚ
        costs_nothing =
            ap (λ n. cell (numbers_at (parts leaves) c ++ map (λ slack. zero_ℚ) (slacks leaves))
            (n + j)) (sym (length-map (parts leaves) (λ part. flipped part.1 (c part.0))))
            ∙ get_or-append-add (numbers_at (parts leaves) c)
            (map (λ slack. zero_ℚ) (slacks leaves)) j zero_ℚ
            ∙ get_or-map (λ slack. zero_ℚ) (slacks leaves) j d zero_ℚ h

    weigh : Weigh es w
    weigh = weigh_from es w length_w (λ i d h. subst
        (λ k. MayWeigh (slack_of (slice_index_or es i d).set) (cell w k)) (from_none i)
        (weighs es 0 i (cell w) d h priced))

    a : Address → Rational
    a v = dot w (map (λ e. coefficient e.function v) es)

    parts_left : All (λ part. flipped part.1 (a part.0) ≤ℚ flipped part.1 (c part.0)) (parts leaves)
    unfolding a w
    parts_left j d h =
        subst (λ q. q ≤ℚ flipped (slice_index_or (parts leaves) j d).1
        (c (slice_index_or (parts leaves) j d).0)) (part_weighed (parts leaves) (slacks leaves)
        es y j d h)
        (subst (λ q. weighted F (cell y) (λ i. F.matrix i j) ≤ℚ q) its_cost
        (reduced j (omega (arith, h))))
      where
        its_cost : cell (numbers_at (parts leaves) c ++ map (λ slack. zero_ℚ) (slacks leaves)) j
            ≡ flipped (slice_index_or (parts leaves) j d).1
            (c (slice_index_or (parts leaves) j d).0)
        its_cost =
            get_or_append_left (numbers_at (parts leaves) c) (map (λ slack. zero_ℚ) (slacks leaves))
            zero_ℚ j (subst (λ n. j
            < n) (sym (length-map (parts leaves) (λ part. flipped part.1 (c part.0)))) h)
            ∙ get_or-map (λ part. flipped part.1 (c part.0)) (parts leaves) j d zero_ℚ h

    held_are : held_rows leaves (duals_in leaves y)
        ≡ held_with (by_rows (finite.entries leaves.rows) w) (finite.entries leaves.rows)
    unfolding w
    held_are =
        held_is (duals_in leaves y) (finite.entries leaves.rows)
        ∙ ap (λ lists. held_with lists (finite.entries leaves.rows))
        (sym (map-map (duals_in leaves y) (λ row. row.0) (finite.entries leaves.rows))
        ∙ listed [] (finite.keys leaves.rows) (by_rows (finite.entries leaves.rows)
        (unflipped (map is_flipped es) y)) (keys_distinct leaves.rows)
        (length-by_rows (finite.entries leaves.rows) (unflipped (map is_flipped es) y)
        ∙ sym (length-map (finite.entries leaves.rows) (λ row. row.0))))

    are_duals : AreLeafDuals leaves c (duals_in leaves y)
    unfolding a
    are_duals = record {
      duals = subst (All HasDuals) (sym held_are) (have_duals (finite.entries leaves.rows) w
          native.rows weigh);
      left =
          subst (λ hs. All (λ var. MayCost var.1 (c var.0 -ℚ adjoint hs var.0))
          (finite.entries leaves.variables)) (sym held_are)
          (left_over (finite.entries leaves.variables) (adjoint
          (held_with (by_rows (finite.entries leaves.rows) w) (finite.entries leaves.rows))) c
          (All-weaker (λ part. flipped part.1 (a part.0) ≤ℚ flipped part.1 (c part.0))
          (λ part. flipped part.1 (adjoint (held_with (by_rows (finite.entries leaves.rows) w)
          (finite.entries leaves.rows)) part.0) ≤ℚ flipped part.1 (c part.0))
          (λ part h. subst (λ q. flipped part.1 q ≤ℚ flipped part.1 (c part.0))
          (sym (adjoint_by_equations part.0 (finite.entries leaves.rows) w length_w)) h)
          (parts leaves) parts_left));
    }

    gap_is : weighted F (cell y) F.right ≡ gap (held_rows leaves (duals_in leaves y))
    unfolding w
    gap_is = weighed_rights es y
        ∙ sym (gap_by_equations (finite.entries leaves.rows) w native.rows weigh length_w)
        ∙ ap gap (sym held_are)

  -- ---- answers

  free : (j : ℕ) → j < column_count leaves
      → cell (numbers_at (parts leaves) (λ at. zero_ℚ) ++ map (λ slack. zero_ℚ) (slacks leaves)) j
      ≡ zero_ℚ
  free j b =
      All-append (λ q. q ≡ zero_ℚ) (numbers_at (parts leaves) (λ at. zero_ℚ))
      (map (λ slack. zero_ℚ) (slacks leaves))
      (All-map (λ q. q ≡ zero_ℚ) (λ part. flipped part.1 zero_ℚ) (parts leaves)
      (λ k d h. flipped-zero (slice_index_or (parts leaves) k d).1))
      (All-map (λ q. q ≡ zero_ℚ) (λ slack. zero_ℚ) (slacks leaves) (λ k d h. refl))
      j zero_ℚ (subst (λ n. j < n) (sym length_zeros) b)
    where
      length_zeros : length (numbers_at (parts leaves) (λ at. zero_ℚ)
          ++ map (λ slack. zero_ℚ) (slacks leaves)) ≡ column_count leaves
      length_zeros =
          length-append (numbers_at (parts leaves) (λ at. zero_ℚ))
          (map (λ slack. zero_ℚ) (slacks leaves))
          ∙ ap₂ ◌+◌ (length-map (parts leaves) (λ part. flipped part.1 zero_ℚ))
          (length-map (slacks leaves) (λ slack. zero_ℚ))

  right_optimal : (x y : List Rational) → length x ≡ column_count leaves
      → form.IsFormOptimal F (cell x) (cell y)
      → right.IsLeafOptimal leaves (point_in leaves x) (duals_in leaves y)
  unfolding value_of
  right_optimal x y n o = record {
    feasible = feasible_point x n o.feasible;
    duals = are_duals y (coefficient (cost leaves)) o.reduced;
    equal = ap (λ s. (cost leaves).constant +ℚ s)
        (sym (cost_is x n) ∙ sym o.equal ∙ gap_is y (coefficient (cost leaves)) o.reduced);
  }

  right_infeasible : (y : List Rational) → form.IsFormInfeasible F (cell y)
      → right.IsLeafInfeasible leaves (duals_in leaves y)
  right_infeasible y o =
      let reduced = λ (j : ℕ) (b : j < column_count leaves). subst
      (λ q. weighted F (cell y) (λ i. F.matrix i j) ≤ℚ q) (sym (free j b)) (o.nonpos j b) in
      record {
        duals = are_duals y (λ at. zero_ℚ) reduced;
        above = subst (λ q. zero_ℚ ‹ℚ q) (gap_is y (λ at. zero_ℚ) reduced) o.above;
      }

  right_unbounded : (x d : List Rational) → length x ≡ column_count leaves
      → length d ≡ column_count leaves → form.IsFormUnbounded F (cell x) (cell d)
      → right.IsLeafUnbounded leaves (point_in leaves x) (point_in leaves d)
  right_unbounded x d n k o = record {
    feasible = feasible_point x n o.feasible;
    ray = feasible_ray d k o.nonneg o.stays;
    falls = subst (λ q. q ‹ℚ zero_ℚ) (cost_is d k) o.falls;
  }

  -- ---- the law
  pub right_read_back : (a : SolverAnswer) → IsRightAnswer (equality_form (form_of_leaves leaves)) a
      → IsRight leaves (read_back leaves a)
  right_read_back (solver.Optimal x y basis) h = right_optimal x y h.0 h.2
  right_read_back (solver.Infeasible y basis) h = right_infeasible y h.1
  right_read_back (solver.Unbounded x d basis) h = right_unbounded x d h.0 h.1 h.2
