-- A feasible point of the equality form, read back, is feasible for the leaf model, and so is a
-- ray.
use Rattle.std.specs.Prelude.{◌≡◌, ℕ, ◌+◌, ◌-◌, ◌<◌, ◌≤◌, Bool, List, [], ◌∷◌, ◌++◌, All, IsSome, drop, length, map, slice_index_or}
use Rattle.std.specs.FinMap as finite
use Rattle.std.proofs.Common.{sym, ◌∙◌, ap, arith, subst}
use Rattle.std.proofs.lemmas.List.{length-drop, length-map}
use Rattle.std.proofs.lemmas.List.Elements.{All-append, All-cons, All-drop, All-head, All-map, All-nil, All-tail, All-weaker}
use Rattle.std.proofs.lemmas.Simd.{map-map}
use Rattle.map_laws.specs.EachLaws.{all_first, all_second}
use Rattle.ratio_core.specs.Rational.{Rational, one_ℚ, zero_ℚ, ◌*ℚ◌, ◌+ℚ◌}
use Rattle.rational_laws.specs.Dot.{dot}
use Rattle.rational_laws.specs.Sums.{sum_by_ℚ, sum_by_ℚ-map}
use Rattle.aff_core.specs.Address.{Address}
use Rattle.aff_core.specs.Function.{Function, coefficient, evaluated, slope, terms_of}
use Rattle.aff_core.specs.FunctionLists.{evaluations}
use Rattle.item_core.specs.declared.item.Body.{Body}
use Rattle.item_core.specs.Item.{functions_of, set_of}
use Rattle.leaf_model.specs.LeafModel.{LeafModel}
use Rattle.linear_laws.specs.SlopeLaws.{slope_over}
use Rattle.linear_laws.specs.SupportLaws.{count}
use Rattle.set_core.specs.Membership.{In}
use Rattle.set_core.specs.Mirrored.{multiplied}
use Rattle.simplex_core.specs.StdForm.{equality_form}
use Rattle.simplex_form.specs.Form.{left_side}
use Rattle.solver_store.specs.declared.leaf.LeafVar.{LeafVar}
use Rattle.tableau_core.specs.Row.{cell}
use Rattle.equality_form.specs.CellLaws.{dot_of_maps, flipped-flipped}
use Rattle.equality_form.specs.Columns.{parts, slacks}
use Rattle.equality_form.specs.ComponentLaws.{MeetsBound, in_set, meets}
use Rattle.equality_form.specs.EqualityForm.{column_count, form_of_leaves, numbers_at, unit_at}
use Rattle.equality_form.specs.Equations.{Equation, equations, equations_among, equations_of, flipped, is_flipped, number_of, right_of, slack_of}
use Rattle.equality_form.specs.KeyLaws.{key_once, keys_distinct, listed}
use Rattle.equality_form.specs.Native.{IsNativeModel, IsNativeRow, NamesVariables}
use Rattle.equality_form.specs.PointLaws.{admitted, length-values_in, parts_dot}
use Rattle.equality_form.specs.ReadBack.{point_in, values_in}
use Rattle.equality_form.specs.Right.{IsLeafFeasible}
use Rattle.equality_form.specs.RowLaws.{from_none, left_of_row}
use Rattle.equality_form.specs.SlackLaws.{IsNonneg, MayAdd, slack_adds}

-- of all equations, and so of the components of each row
abbrev pub EachComponent : (Equation → Type 0) → Address × Body → Type 0
EachComponent P row =
    All (λ f. P (record { function = f; set = set_of row.1 })) (functions_of row.1)

pub by_row : (P : Equation → Type 0) (rows : List (Address × Body)) → All P (equations_among rows)
    → All (EachComponent P) rows
by_row P [] h = All-nil (EachComponent P)
by_row P (row ∷ rows) h =
    All-cons (EachComponent P) row rows
    (components (functions_of row.1) (all_first P (equations_of row.1) (equations_among rows) h))
    (by_row P rows (all_second P (equations_of row.1) (equations_among rows) h))
  where
    components : (fs : List Function)
        → All P (map (λ f. record { function = f; set = set_of row.1 }) fs)
        → All (λ f. P (record { function = f; set = set_of row.1 })) fs
    components [] h = All-nil (λ f. P (record { function = f; set = set_of row.1 }))
    components (f ∷ fs) h =
        All-cons (λ f. P (record { function = f; set = set_of row.1 })) f fs
        (All-head P (record { function = f; set = set_of row.1 })
        (map (λ f. record { function = f; set = set_of row.1 }) fs) h)
        (components fs (All-tail P (record { function = f; set = set_of row.1 })
        (map (λ f. record { function = f; set = set_of row.1 }) fs) h))

module _ (leaves : LeafModel) where
  vars : List (Address × LeafVar)
  vars = finite.entries leaves.variables

  -- a slope is a sum over the variables
  pub slope_over_variables : (f : Function) (p : Address → Rational) → NamesVariables leaves f
      → slope f p ≡ sum_by_ℚ (λ u. coefficient f u *ℚ p u) (finite.keys leaves.variables)
  slope_over_variables f p h =
      slope_over (finite.keys leaves.variables) f p
      (All-map (λ w. count (finite.keys leaves.variables) w ≡ one_ℚ) (λ t. t.0) (terms_of f)
      (All-weaker (λ t. IsSome (finite.get leaves.variables t.0))
      (λ t. count (finite.keys leaves.variables) t.0 ≡ one_ℚ)
      (λ t k. key_once leaves.variables t.0 k) (terms_of f) h))

  -- the numbers that stand at the variables
  pub values_at : (x : List Rational)
      → map (λ var. point_in leaves x var.0) (finite.entries leaves.variables)
      ≡ values_in (finite.entries leaves.variables) x
  values_at x =
      sym (map-map (point_in leaves x) (λ var. var.0) (finite.entries leaves.variables))
      ∙ listed zero_ℚ (finite.keys leaves.variables) (values_in (finite.entries leaves.variables) x)
      (keys_distinct leaves.variables)
      (length-values_in (finite.entries leaves.variables) x
      ∙ sym (length-map (finite.entries leaves.variables) (λ var. var.0)))

  -- weighed by coefficients, the columns of the variables are a sum over the variables
  pub columns_dot : (g : Address → Rational) (rest x : List Rational)
      → length (parts leaves) ≤ length x
      → dot (numbers_at (parts leaves) g ++ rest) x
      ≡ sum_by_ℚ (λ u. g u *ℚ point_in leaves x u) (finite.keys leaves.variables)
      +ℚ dot rest (drop (length (parts leaves)) x)
  columns_dot g rest x h =
      parts_dot (finite.entries leaves.variables) g rest x h
      ∙ ap (λ s. s +ℚ dot rest (drop (length (parts leaves)) x))
      (ap (dot (map (λ var. g var.0) (finite.entries leaves.variables))) (sym (values_at x))
      ∙ dot_of_maps (λ var. g var.0) (λ var. point_in leaves x var.0)
      (finite.entries leaves.variables)
      ∙ sym (sum_by_ℚ-map (λ u. g u *ℚ point_in leaves x u) (λ var. var.0)
      (finite.entries leaves.variables)))

  module _ (native : IsNativeModel leaves) (one : Rational) (x : List Rational)
      (long : length x ≡ column_count leaves) (nonneg : All IsNonneg x)
      (left : (i : ℕ) (d : Equation) → i < length (equations leaves)
      → left_side (equality_form (form_of_leaves leaves)) (cell x) i
      ≡ flipped (is_flipped (slice_index_or (equations leaves) i d))
      (one *ℚ right_of (slice_index_or (equations leaves) i d))) where
    enough : length (parts leaves) ≤ length x
    enough = omega (arith, long)

    abbrev HoldsAt : Equation → Type 0
    HoldsAt e = MeetsBound (slack_of e.set) (one *ℚ number_of e.set)
        (evaluated one e.function (point_in leaves x))

    unflip : (b : Bool) (p q : Rational) → flipped b p ≡ flipped b q → p ≡ q
    unflip b p q e = sym (flipped-flipped b p) ∙ ap (flipped b) e ∙ flipped-flipped b q

    named_equations : All (λ e. NamesVariables leaves e.function) (equations leaves)
    named_equations = flat (finite.entries leaves.rows) native.row_names
      where
        flat : (rows : List (Address × Body))
            → All (λ row. All (NamesVariables leaves) (functions_of row.1)) rows
            → All (λ e. NamesVariables leaves e.function) (equations_among rows)
        flat [] h = All-nil (λ e. NamesVariables leaves e.function)
        flat (row ∷ rows) h =
            All-append (λ e. NamesVariables leaves e.function) (equations_of row.1)
            (equations_among rows)
            (All-map (λ e. NamesVariables leaves e.function)
            (λ f. record { function = f; set = set_of row.1 }) (functions_of row.1)
            (All-head (λ row. All (NamesVariables leaves) (functions_of row.1)) row rows h))
            (flat rows (All-tail (λ row. All (NamesVariables leaves) (functions_of row.1)) row rows
            h))

    slack_of_row : ℕ → Rational
    slack_of_row i = dot (unit_at (slacks leaves) i) (drop (length (parts leaves)) x)

    balanced : (i : ℕ) (d : Equation) → i < length (equations leaves)
        → slope (slice_index_or (equations leaves) i d).function (point_in leaves x)
        +ℚ slack_of_row i ≡ one *ℚ right_of (slice_index_or (equations leaves) i d)
    unfolding slack_of_row
    balanced i d h =
        ap (λ s. s +ℚ slack_of_row i) (slope_over_variables
        (slice_index_or (equations leaves) i d).function (point_in leaves x)
        (named_equations i d h))
        ∙ sym (columns_dot (coefficient (slice_index_or (equations leaves) i d).function)
        (unit_at (slacks leaves) i) x enough)
        ∙ unflip (is_flipped (slice_index_or (equations leaves) i d)) _ _
        (sym (left_of_row (parts leaves) (slacks leaves) (equations leaves) x i d h long)
        ∙ left i d h)

    added : (i : ℕ) (d : Equation) → i < length (equations leaves)
        → MayAdd (slack_of (slice_index_or (equations leaves) i d).set) (slack_of_row i)
    unfolding slack_of_row
    added i d h =
        subst (λ n. MayAdd (slack_of (slice_index_or (equations leaves) i d).set)
        (dot (unit_at (slacks leaves) n) (drop (length (parts leaves)) x))) (from_none i)
        (slack_adds (equations leaves) 0 i (drop (length (parts leaves)) x) d h
        (length-drop (length (parts leaves)) x
        ∙ rest_lem (length x) (length (parts leaves)) (length (slacks leaves)) long)
        (All-drop IsNonneg (length (parts leaves)) x nonneg))
      where
        rest_lem : (n p s : ℕ) → n ≡ p + s → n - p ≡ s
        rest_lem n p s e = omega (arith, e)

    equations_hold : All HoldsAt (equations leaves)
    equations_hold i d h =
        meets (slack_of (slice_index_or (equations leaves) i d).set) one
        (number_of (slice_index_or (equations leaves) i d).set)
        (slice_index_or (equations leaves) i d).function.constant
        (slope (slice_index_or (equations leaves) i d).function (point_in leaves x))
        (slack_of_row i) (added i d h) (balanced i d h)

    rows_hold : (rows : List (Address × Body)) → All (λ row. IsNativeRow row.1) rows
        → All (EachComponent HoldsAt) rows
        → All (λ row. In (multiplied one (set_of row.1))
        (evaluations one (functions_of row.1) (point_in leaves x))) rows
    rows_hold [] n h = All-nil (λ row. In (multiplied one (set_of row.1))
        (evaluations one (functions_of row.1) (point_in leaves x)))
    rows_hold (row ∷ rows) n h =
        let is_native = All-head (λ row. IsNativeRow row.1) row rows n in
        All-cons (λ row. In (multiplied one (set_of row.1))
        (evaluations one (functions_of row.1) (point_in leaves x))) row rows
        (in_set one (set_of row.1) (evaluations one (functions_of row.1) (point_in leaves x))
        is_native.set (is_native.dimension
        ∙ sym (length-map (functions_of row.1) (λ f. evaluated one f (point_in leaves x))))
        (All-map (MeetsBound (slack_of (set_of row.1)) (one *ℚ number_of (set_of row.1)))
        (λ f. evaluated one f (point_in leaves x)) (functions_of row.1)
        (All-head (EachComponent HoldsAt) row rows h)))
        (rows_hold rows (All-tail (λ row. IsNativeRow row.1) row rows n)
        (All-tail (EachComponent HoldsAt) row rows h))

    pub is_feasible : IsLeafFeasible leaves one (point_in leaves x)
    is_feasible = record {
      variables = admitted (finite.entries leaves.variables) (point_in leaves x) x (values_at x)
          enough nonneg;
      rows = rows_hold (finite.entries leaves.rows) native.rows
          (by_row HoldsAt (finite.entries leaves.rows) equations_hold);
    }
