-- What is read back by index is, by address, what the leaf model's answer is.
use Rattle.std.specs.Prelude.{◌≡◌, ℕ, Bool, true, false, cond, List, [], ◌∷◌, All, Option, Some, None, length, unwrap_or, refl}
use Rattle.std.specs.Prelude as prelude
use Rattle.std.specs.FinMap as finite
use Rattle.std.specs.FinMap.Entries.{find}
use Rattle.std.specs.Cmp.{nat_cmp_total}
use Rattle.std.specs.Option.{option_map_or}
use Rattle.std.specs.Ordering.{eq_by_cmp, nat_cmp}
use Rattle.std.proofs.Common.{sym, ◌∙◌, ap, ap₂, subst, true≢false}
use Rattle.std.proofs.lemmas.List.{length-map}
use Rattle.std.proofs.lemmas.List.Elements.{All-head, All-tail, All-weaker}
use Rattle.std.proofs.lemmas.Option.{none-some, same_Some}
use Rattle.std.proofs.lemmas.Simd.{map-map}
use Rattle.ratio_core.specs.Rational.{Rational, zero_ℚ}
use Rattle.address_map.specs.AddressMap.{AddressMap}
use Rattle.address_map.specs.Places.{AreIndicesOneToOne, Indices}
use Rattle.aff_core.specs.Address.{Address, address_eq, address_eq-Decides}
use Rattle.aff_core.specs.KeyOrder.{key_eq-Decides}
use Rattle.equality_form.specs.Equations.{is_flipped}
use Rattle.equality_form.specs.ReadBack.{AnswerFits, LeafPointFits, LeafValueFits, ValuesFit, after, duals_in, in_parts, listed_at, point_in, read_back, unflipped, value_in, values_in, optimal, infeasible, unbounded}
use Rattle.equality_form.specs.Right.{IsRight}
use Rattle.equality_form.specs.RightLaws.{right_read_back}
use Rattle.item_core.specs.declared.item.Body.{Body}
use Rattle.item_core.specs.Item.{functions_of}
use Rattle.leaf_model.specs.ReadThrough.{read_row, read_through}
use Rattle.simplex_core.specs.Answer.{IsRightAnswer}
use Rattle.simplex_core.specs.StdForm.{equality_form}
use Rattle.simplex_core.specs.declared.answer.SolverAnswer.{SolverAnswer}
use Rattle.simplex_core.specs.declared.answer.SolverAnswer.TheVariants as solver
use Rattle.solver_store.specs.SolverModel.{Leaves}
use Rattle.solver_store.specs.declared.leaf.LeafRow.{LeafRow}
use Rattle.solver_store.specs.declared.leaf.LeafRow.TheVariants as row
use Rattle.solver_store.specs.declared.leaf.LeafVar.{LeafVar}
use Rattle.std_form.specs.Answers.{FitByIndex, answer_of, at_address, dual_lists, points, read_by_index, row_lengths, under}
use Rattle.std_form.specs.FormLaws.{equations_through, flips_named, form_is}
use Rattle.std_form.specs.Indexed.{equations_in, equations_of, form_of, rows_of, variables_of}
use Rattle.std_form.specs.NameLaws.{index_order}
use Rattle.std_form.specs.NativeLaws.{is_native}
use Rattle.std_form.specs.Readable.{IsReadable}
use Rattle.std_form.specs.ThroughLaws.{HasItsIndex, each_index, entries_through, leaves_at_is, leaves_with}

-- ---- values under indices, and at the addresses of these

module _ (indices : Indices) (one : AreIndicesOneToOne indices) {V X : Type 0} (none : X) where
  abbrev HasIndexOf : Address × (ℕ × V) → Type 0
  HasIndexOf l = finite.get indices l.0 ≡ Some l.1.0

  same_test : (at : Address) (i : ℕ) (l : Address × (ℕ × V)) → finite.get indices at ≡ Some i
      → HasIndexOf l → eq_by_cmp nat_cmp i l.1.0 ≡ address_eq at l.0
  same_test at i l h k = by_test (eq_by_cmp nat_cmp i l.1.0) (address_eq at l.0) refl refl
    where
      by_test : (b c : Bool) → eq_by_cmp nat_cmp i l.1.0 ≡ b → address_eq at l.0 ≡ c → b ≡ c
      by_test true true e f = refl
      by_test false false e f = refl
      by_test true false e f =
          absurd (true≢false (sym ((address_eq-Decides at l.0).1
          (one at l.0 l.1.0 (h ∙ ap Some ((key_eq-Decides index_order i l.1.0).0 e)) k)) ∙ f))
      by_test false true e f =
          absurd (true≢false (sym ((key_eq-Decides index_order i l.1.0).1
          (same_Some i l.1.0 (sym h ∙ ap (finite.get indices) ((address_eq-Decides at l.0).0 f)
          ∙ k))) ∙ e))

  found_listed : (at : Address) (i : ℕ) → finite.get indices at ≡ Some i
      → (L : List (Address × (ℕ × V))) → All HasIndexOf L → (xs : List X)
      → unwrap_or (find nat_cmp i (under (prelude.map (λ l. l.1) L) xs)) none
      ≡ listed_at none (prelude.map (λ l. l.0) L) xs at
  found_listed at i h [] k xs = refl
  found_listed at i h (l ∷ L) k [] = refl
  found_listed at i h (l ∷ L) k (x ∷ xs) =
      by_test (eq_by_cmp nat_cmp i l.1.0) (found_listed at i h L (All-tail HasIndexOf l L k) xs)
      ∙ ap (λ b. cond b x (listed_at none (prelude.map (λ l. l.0) L) xs at))
      (same_test at i l h (All-head HasIndexOf l L k))
    where
      by_test : (b : Bool)
          → unwrap_or (find nat_cmp i (under (prelude.map (λ l. l.1) L) xs)) none
          ≡ listed_at none (prelude.map (λ l. l.0) L) xs at
          → unwrap_or (cond b (Some x) (find nat_cmp i (under (prelude.map (λ l. l.1) L) xs))) none
          ≡ cond b x (listed_at none (prelude.map (λ l. l.0) L) xs at)
      by_test true rest = refl
      by_test false rest = rest

  listed_nowhere : (at : Address) → finite.get indices at ≡ None → (L : List (Address × (ℕ × V)))
      → All HasIndexOf L → (xs : List X) → none ≡ listed_at none (prelude.map (λ l. l.0) L) xs at
  listed_nowhere at h [] k xs = refl
  listed_nowhere at h (l ∷ L) k [] = refl
  listed_nowhere at h (l ∷ L) k (x ∷ xs) =
      by_test (address_eq at l.0) refl (listed_nowhere at h L (All-tail HasIndexOf l L k) xs)
    where
      by_test : (b : Bool) → address_eq at l.0 ≡ b
          → none ≡ listed_at none (prelude.map (λ l. l.0) L) xs at
          → none ≡ cond b x (listed_at none (prelude.map (λ l. l.0) L) xs at)
      by_test true e rest =
          absurd (none-some l.1.0 (sym h ∙ ap (finite.get indices) ((address_eq-Decides at l.0).0 e)
          ∙ All-head HasIndexOf l L k))
      by_test false e rest = rest

  under_listed : (L : List (Address × (ℕ × V))) → All HasIndexOf L → (xs : List X) (at : Address)
      → at_address none indices (finite.from_entries (under (prelude.map (λ l. l.1) L) xs)) at
      ≡ listed_at none (prelude.map (λ l. l.0) L) xs at
  under_listed L k xs at = by_index (finite.get indices at) refl
    where
      by_index : (o : Option ℕ) → finite.get indices at ≡ o
          → option_map_or (λ i. unwrap_or (finite.get (finite.from_entries {R = nat_cmp}
          (under (prelude.map (λ l. l.1) L) xs)) i) none) o none
          ≡ listed_at none (prelude.map (λ l. l.0) L) xs at
      by_index None h = listed_nowhere at h L k xs
      by_index (Some i) h =
          ap (λ o. unwrap_or o none) (finite.get-from_entries nat_cmp_total
          (under (prelude.map (λ l. l.1) L) xs) i) ∙ found_listed at i h L k xs

-- ---- values and lists of duals are the same by address and by index

values_same : (L : List (Address × (ℕ × LeafVar))) (x : List Rational)
    → values_in (prelude.map (λ l. l.1) L) x ≡ values_in (prelude.map (λ l. (l.0, l.1.1)) L) x
values_same [] x = refl
values_same (l ∷ L) x = ap (λ vs. value_in l.1.1 x ∷ vs) (values_same L (after l.1.1 x))

fit_same : (L : List (Address × (ℕ × LeafVar))) (x : List Rational)
    → ValuesFit (prelude.map (λ l. l.1) L) x ≡ ValuesFit (prelude.map (λ l. (l.0, l.1.1)) L) x
fit_same [] x = refl
fit_same (l ∷ L) x = ap (λ P. LeafValueFits l.1.1 x × P) (fit_same L (after l.1.1 x))

components_same : (indices : Indices) (r : LeafRow)
    → length (equations_in r) ≡ length (functions_of (read_row indices r))
components_same indices (row.Plain var set) = refl
components_same indices (row.Affine func set) = refl
components_same indices (row.AffineVec func set) = length-map func _ ∙ sym (length-map func _)

lengths_same : (indices : Indices) (L : List (Address × (ℕ × LeafRow)))
    → row_lengths (prelude.map (λ l. l.1) L)
    ≡ prelude.map {A = Address × Body} (λ r. length (functions_of r.1))
    (prelude.map (λ l. (l.0, read_row indices l.1.1)) L)
lengths_same indices [] = refl
lengths_same indices (l ∷ L) = ap₂ ◌∷◌ (components_same indices l.1.1) (lengths_same indices L)

-- ---- answers

module _ (map : AddressMap) (leaves : Leaves) (one_var : AreIndicesOneToOne map.vars.indices)
    (one_row : AreIndicesOneToOne map.rows.indices) (at : Address) where
  vars_with : List (Address × (ℕ × LeafVar))
  vars_with = leaves_with leaves.vars (finite.entries map.vars.indices)

  rows_with : List (Address × (ℕ × LeafRow))
  rows_with = leaves_with leaves.rows (finite.entries map.rows.indices)

  vars_through : finite.entries (read_through map leaves at).variables
      ≡ prelude.map (λ l. (l.0, l.1.1)) vars_with
  unfolding vars_with
  vars_through = entries_through leaves.vars (λ var. var) map.vars.indices

  rows_through : finite.entries (read_through map leaves at).rows
      ≡ prelude.map (λ l. (l.0, read_row map.vars.indices l.1.1)) rows_with
  unfolding rows_with
  rows_through = entries_through leaves.rows (read_row map.vars.indices) map.rows.indices

  point_same : (x : List Rational) (v : Address)
      → at_address zero_ℚ map.vars.indices (finite.from_entries
      (points (variables_of map leaves) x)) v ≡ point_in (read_through map leaves at) x v
  unfolding vars_with
  point_same x v =
      ap (λ vars. at_address zero_ℚ map.vars.indices (finite.from_entries (points vars x)) v)
      (leaves_at_is leaves.vars map.vars.indices)
      ∙ under_listed map.vars.indices one_var zero_ℚ vars_with
      (All-weaker (HasItsIndex leaves.vars map.vars.indices)
      (λ l. finite.get map.vars.indices l.0 ≡ Some l.1.0) (λ l h. h.0) vars_with
      (each_index leaves.vars map.vars.indices))
      (values_in (prelude.map (λ l. l.1) vars_with) x) v
      ∙ ap₂ (λ keys vs. listed_at zero_ℚ keys vs v)
      (sym (map-map (λ e. e.0) (λ l. (l.0, l.1.1)) vars_with)
      ∙ ap (prelude.map (λ e. e.0)) (sym vars_through))
      (values_same vars_with x ∙ ap (λ es. values_in es x) (sym vars_through))

  duals_same : (y : List Rational) (v : Address)
      → at_address [] map.rows.indices (finite.from_entries
      (dual_lists (rows_of map leaves) (unflipped (prelude.map is_flipped (equations_of map leaves))
      y))) v ≡ duals_in (read_through map leaves at) y v
  unfolding rows_with
  duals_same y v =
      ap (λ rows. at_address [] map.rows.indices (finite.from_entries
      (dual_lists rows (unflipped (prelude.map is_flipped (equations_of map leaves)) y))) v)
      (leaves_at_is leaves.rows map.rows.indices)
      ∙ under_listed map.rows.indices one_row [] rows_with
      (All-weaker (HasItsIndex leaves.rows map.rows.indices)
      (λ l. finite.get map.rows.indices l.0 ≡ Some l.1.0) (λ l h. h.0) rows_with
      (each_index leaves.rows map.rows.indices))
      (in_parts (row_lengths (prelude.map (λ l. l.1) rows_with))
      (unflipped (prelude.map is_flipped (equations_of map leaves)) y)) v
      ∙ ap₂ (λ keys vs. listed_at [] keys vs v)
      (sym (map-map (λ e. e.0) (λ l. (l.0, read_row map.vars.indices l.1.1)) rows_with)
      ∙ ap (prelude.map (λ e. e.0)) (sym rows_through))
      (ap₂ in_parts
      (lengths_same map.vars.indices rows_with
      ∙ ap (prelude.map {A = Address × Body} (λ r. length (functions_of r.1)))
      (sym rows_through))
      (ap (λ flips. unflipped flips y) (sym (flips_named map.vars.indices (equations_of map leaves))
      ∙ ap (prelude.map is_flipped) (sym (equations_through map leaves at)))))

  -- what is read back by index is the leaf model's answer by address
  pub answer_is : (a : SolverAnswer)
      → answer_of map (read_by_index map leaves (form_of map leaves).flips a)
      ≡ read_back (read_through map leaves at) a
  answer_is (solver.Optimal x y basis) =
      λ i. optimal (λ v. point_same x v i) (λ v. duals_same y v i)
  answer_is (solver.Infeasible y basis) = λ i. infeasible (λ v. duals_same y v i)
  answer_is (solver.Unbounded x d basis) =
      λ i. unbounded (λ v. point_same x v i) (λ v. point_same d v i)

  point_fits : (x : List Rational)
      → ValuesFit (variables_of map leaves) x ≡ LeafPointFits (read_through map leaves at) x
  unfolding vars_with
  point_fits x =
      ap (λ vars. ValuesFit vars x) (leaves_at_is leaves.vars map.vars.indices)
      ∙ fit_same vars_with x ∙ ap (λ es. ValuesFit es x) (sym vars_through)

  pub fit_is : (a : SolverAnswer)
      → FitByIndex map leaves a ≡ AnswerFits (read_through map leaves at) a
  fit_is (solver.Optimal x y basis) = point_fits x
  fit_is (solver.Infeasible y basis) = refl
  fit_is (solver.Unbounded x d basis) = ap₂ (λ P Q. P × Q) (point_fits x) (point_fits d)

  -- a right answer is right for the leaf model
  pub right_by_index : IsReadable map leaves → (a : SolverAnswer)
      → IsRightAnswer (equality_form (form_of map leaves)) a
      → IsRight (read_through map leaves at) (answer_of map
      (read_by_index map leaves (form_of map leaves).flips a))
  right_by_index readable a h =
      subst (IsRight (read_through map leaves at)) (sym (answer_is a))
      (right_read_back (read_through map leaves at) (is_native map leaves one_var readable at) a
      (subst (λ form. IsRightAnswer (equality_form form) a) (form_is map leaves one_var readable at)
      h))
