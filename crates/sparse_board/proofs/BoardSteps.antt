-- What is read of a board as it is kept, before and after a pivot.
use Rattle.std.specs.Prelude.{◌≡◌, ℕ, zero, suc, ◌+◌, ◌<◌, ◌^◌, Bool, false, not, nat_lt, IfSome, List, [], ◌∷◌, length, map, Option, Some, None, slice_index_or, slice_set, vec_len, refl}
use Rattle.std.proofs.Common.{sym, ◌∙◌, ap, ap₂, arith, subst}
use Rattle.std.proofs.lemmas.List.{length-map}
use Rattle.std.proofs.lemmas.List.FromFn.{get_or-map-range_with_len}
use Rattle.ratio_core.specs.Rational.{Rational, rational_eq, zero_ℚ, ◌/ℚ◌, ◌‹ℚ◌}
use Rattle.simplex_form.specs.Fit.{pivot_fits}
use Rattle.simplex_form.specs.Readings.{Agrees}
use Rattle.simplex_form.specs.Search.{best_below, least_below}
use Rattle.simplex_form.specs.Turns.{entering, is_below, swept_column}
use Rattle.simplex_form.specs.Turns as bland
use Rattle.simplex_laws.specs.AgreementLaws.{real_column}
use Rattle.simplex_laws.specs.SearchLaws.{best_below_same, least_below_same}
use Rattle.tableau_core.specs.Row.{cell}
use Rattle.tableau_core.specs.BoardContents.{BoardContents, IsPivoted, readings_of, width}
use Rattle.tableau_core.specs.Leaving.{comes_before}
use Rattle.tableau_core.specs.KeptLaws.{column_kept, pivoted_read, row_kept, tests_read}
use Rattle.tableau_core.specs.BoardNumbers.{BoardNumbers, IsSettled, kept_readings, numbers_fit}
use Rattle.sparse_board.specs.declared.board.Board.TheInside.{Inside}
use Rattle.sparse_board.specs.declared.cost_rows.CostRows.{CostRows}
use Rattle.sparse_board.specs.declared.marks.Marks.{Marks}
use Rattle.sparse_board.specs.declared.row.Row.{Row}
use Rattle.sparse_board.specs.declared.mixed_row.MixedRow.{MixedRow}
use Rattle.sparse_board.specs.declared.step.Step.{Step}
use Rattle.sparse_board.specs.Mixed.{number_of, width_of}
use Rattle.sparse_board.specs.Rows.{AreSparseRowsWide, SameNow, number_in_row, numbers, numbers_in, width_at}
use Rattle.sparse_board.specs.Marks.{SameSizes, has}
use Rattle.sparse_board.specs.Marking.{AreNumbersMarked}
use Rattle.sparse_board.specs.Pivoting.{IsBoardReady}
use Rattle.sparse_board.specs.Leaving.{IsSparseCandidate, leaves_before, may_leave}
use Rattle.sparse_board.proofs.RowsSteps.{row_is}
use Rattle.sparse_board.specs.Kept.{IsSparseBoardKept, columns_of, contents_of, listed}

abbrev pub numbers_of : Inside → BoardNumbers
numbers_of a = numbers_in a.rows.items a.costs.first.now a.costs.second.now

-- ---- the board's value

pub cell-listed : (w : ℕ) (f : ℕ → Rational) (j : ℕ) → j < w → cell (listed w f) j ≡ f j
cell-listed w f j b = get_or-map-range_with_len f 0 w j j zero_ℚ b (zero_lem j)
  where
    zero_lem : (j : ℕ) → 0 + j ≡ j
    zero_lem j = omega arith

pub kept_entry : (w : ℕ) (rows : List Row) (i j : ℕ) → j < w
    → cell (slice_index_or (map (λ row. listed w (number_of row.now)) rows) i []) j
    ≡ number_in_row rows i j
kept_entry w [] i j b = refl
kept_entry w (row ∷ rows) zero j b = cell-listed w (number_of row.now) j b
kept_entry w (row ∷ rows) (suc i) j b = kept_entry w rows i j b

pub kept_right : (w : ℕ) (rows : List Row) (i : ℕ) → cell (map (λ row. number_of row.now w) rows) i
    ≡ number_in_row rows i w
kept_right w [] i = refl
kept_right w (row ∷ rows) zero = refl
kept_right w (row ∷ rows) (suc i) = kept_right w rows i

pub count_is : (w : ℕ) (rows : List Row) → length (map (λ row. listed w (number_of row.now)) rows)
    ≡ length rows
count_is w rows = length-map rows (λ row. listed w (number_of row.now))

-- what is read of the value is what is kept
pub value_agrees : (in_first : Bool) (a : Inside) → Agrees in_first (readings_of (contents_of a))
    (kept_readings a.reals a.basis.items (numbers_of a))
value_agrees in_first a = record {
  rows = count_is (columns_of a) a.rows.items;
  reals = refl;
  basis = refl;
  entries = λ i j b c. kept_entry (columns_of a) a.rows.items i j c;
  rights = λ i b. kept_right (columns_of a) a.rows.items i;
  first = λ u j c. cell-listed (columns_of a) (number_of a.costs.first.now) j c;
  second = λ j c. cell-listed (columns_of a) (number_of a.costs.second.now) j c;
}

-- a row and a column of the value are within what is kept
module _ (a : Inside) (t : BoardContents) where
  pub row_within : (r : ℕ) → contents_of a ≡ t → r < length t.rows → r < length a.rows.items
  row_within r view =
      row_kept a.reals a.basis.items (numbers_of a) (contents_of a) t view
      (value_agrees a.costs.in_first a) r

  pub column_within : (q : ℕ) → contents_of a ≡ t → q < width t → q < columns_of a
  column_within q view =
      column_kept a.reals a.basis.items (numbers_of a) (contents_of a) t view
      (value_agrees a.costs.in_first a) q

  -- the tests that are made are those of what is read
  pub tests_same : (r q : ℕ) → contents_of a ≡ t → r < length t.rows → q < width t
      → numbers_fit (columns_of a) r q a.costs.in_first (numbers_of a)
      ≡ pivot_fits t.in_first (readings_of t) r q
  tests_same r q view =
      tests_read a.reals a.basis.items (numbers_of a) (contents_of a) t view
      (value_agrees a.costs.in_first a) r q

-- ---- nothing has changed

abbrev read_of : {X : Type 0} → X → (MixedRow → X) → Option MixedRow → X
read_of d f None = d
read_of d f (Some row) = f row

standing_same : {X : Type 0} (f : MixedRow → X) (rows others : List Row)
    → length rows ≡ length others → SameNow others rows
    → map (λ row. f row.now) rows ≡ map (λ row. f row.now) others
standing_same f [] [] e h = refl
standing_same f [] (x ∷ xs) e h = absurd (omega (arith, e))
standing_same f (x ∷ xs) [] e h = absurd (omega (arith, e))
standing_same f (x ∷ xs) (y ∷ ys) e h =
    ap₂ (λ a b. a ∷ b) (ap (read_of (f x.now) f) (h 0)) (standing_same f xs ys (omega (arith, e))
    (λ i. h (suc i)))

module _ (a b : Inside) (reals : b.reals ≡ a.reals) (in_first : b.costs.in_first ≡ a.costs.in_first)
    (count : length b.rows.items ≡ length a.rows.items)
    (basis : b.basis.items ≡ a.basis.items) where
  columns_is : columns_of b ≡ columns_of a
  columns_is = ap₂ ◌+◌ reals count

  pub view_same : SameNow a.rows.items b.rows.items → b.costs.first.now ≡ a.costs.first.now
      → b.costs.second.now ≡ a.costs.second.now → contents_of b ≡ contents_of a
  view_same rows first second = λ k. record {
    reals = reals k;
    rows = (ap (λ w. map (λ row. listed w (number_of row.now)) b.rows.items) columns_is
        ∙ standing_same (λ row. listed (columns_of a) (number_of row)) b.rows.items a.rows.items
        count rows) k;
    rights = (ap (λ w. map (λ row. number_of row.now w) b.rows.items) columns_is
        ∙ standing_same (λ row. number_of row (columns_of a)) b.rows.items a.rows.items count rows)
        k;
    in_first = in_first k;
    first = listed (columns_is k) (number_of (first k));
    second = listed (columns_is k) (number_of (second k));
    basis = basis k;
  }

pub wide_after : (before after : List Row) (n : ℕ) → length after ≡ length before
    → SameNow before after → AreSparseRowsWide n before → AreSparseRowsWide n after
wide_after before after n count rows wide i b =
    ap width_at (rows i) ∙ wide i (subst (λ k. i < k) count b)

-- the numbers of rows that stand as they did
pub numbers_same : (a : Inside) (rows : List Row) (first second : MixedRow)
    → length rows ≡ length a.rows.items → SameNow a.rows.items rows → first ≡ a.costs.first.now
    → second ≡ a.costs.second.now → numbers_in rows first second ≡ numbers_of a
numbers_same a rows first second count same first_is second_is = λ k. record {
  rows = count k;
  number = λ i j. numbers (same i k) j;
  first = number_of (first_is k);
  second = number_of (second_is k);
}

-- ---- after a pivot

module _ (a b : Inside) (reals : b.reals ≡ a.reals)
    (count : length b.rows.items ≡ length a.rows.items) where
  same_width : columns_of b ≡ columns_of a
  same_width = ap₂ ◌+◌ reals count

  pub kept_after : IsSparseBoardKept a → AreSparseRowsWide (columns_of a + 1) b.rows.items
      → width_of b.costs.first.now ≡ width_of a.costs.first.now
      → width_of b.costs.second.now ≡ width_of a.costs.second.now
      → b.step.width ≡ a.step.width → length b.basis.items ≡ length a.basis.items
      → length b.changes.rows.items ≡ length a.changes.rows.items
      → SameSizes a.marks b.marks → AreNumbersMarked (columns_of a + 1) b.marks b.rows.items
      → IsSparseBoardKept b
  kept_after h wide first second step basis changes sizes marked = record {
    few = subst (λ n. n + 1 < 2 ^ 32) (sym same_width) h.few;
    wide = λ i c. wide i c ∙ ap (λ n. n + 1) (sym same_width);
    spare = step ∙ h.spare ∙ ap (λ n. n + 1) (sym same_width);
    first = first ∙ h.first ∙ sym same_width;
    second = second ∙ h.second ∙ sym same_width;
    basis = basis ∙ h.basis ∙ sym count;
    changes = changes ∙ h.changes ∙ sym count;
    mark_columns = sizes.columns ∙ h.mark_columns ∙ ap (λ n. n + 1) (sym same_width);
    mark_rows = sizes.rows ∙ h.mark_rows ∙ sym count;
    marked = subst (λ n. AreNumbersMarked (n + 1) b.marks b.rows.items) (sym same_width) marked;
  }

  -- `middle` are the rows as they stood, beside which the pivot was worked out
  pub pivoted_all : (r q : ℕ) (t : BoardContents) → contents_of a ≡ t → r < length t.rows
      → q < width t
      → b.costs.in_first ≡ a.costs.in_first → b.basis.items ≡ slice_set a.basis.items r q
      → (middle : BoardNumbers) → middle ≡ numbers_of a
      → IsSettled (columns_of a) r q a.costs.in_first middle (numbers_of b)
      → IsPivoted r q t (contents_of b)
  pivoted_all r q t view row column in_first basis middle same s =
      pivoted_read a.reals a.basis.items (numbers_of a) (contents_of a) t view
      (value_agrees a.costs.in_first a) r q row column
      b.reals b.basis.items (numbers_of b) (contents_of b) (value_agrees a.costs.in_first b)
      reals basis count in_first
      (subst (λ K. IsSettled (columns_of a) r q a.costs.in_first K (numbers_of b)) same s)

-- rows that stand are marked as they were
pub marked_same : (w : ℕ) (marks : Marks) (before after : List Row)
    → length after ≡ length before → SameNow before after → AreNumbersMarked w marks before
    → AreNumbersMarked w marks after
marked_same w marks before after count rows marked i b j c e =
    ap (λ o. numbers o j) (rows i) ∙ marked i (subst (λ n. i < n) count b) j c e

-- ---- what the readers give

module _ (a : Inside) (t : BoardContents) (view : contents_of a ≡ t) where
  pub read_entry : (r q : ℕ) → q < width t → number_in_row a.rows.items r q
      ≡ (readings_of t).entry q r
  read_entry r q c =
      sym (kept_entry (columns_of a) a.rows.items r q (column_within a t q view c))
      ∙ ap (λ t. (readings_of t).entry q r) view

  pub entry_is : (r q : ℕ) (row : Row) → r < length t.rows → q < width t
      → row ≡ slice_index_or a.rows.items r row → number_of row.now q ≡ (readings_of t).entry q r
  entry_is r q row b c is =
      ap (λ x. number_of x.now q) is
      ∙ sym (ap (λ o. numbers o q) (row_is a.rows.items r row (row_within a t r view b)))
      ∙ sym (kept_entry (columns_of a) a.rows.items r q (column_within a t q view c))
      ∙ ap (λ t. (readings_of t).entry q r) view

  pub unmarked_is : IsSparseBoardKept a → (r q : ℕ) → r < length t.rows → q < width t
      → has a.marks q r ≡ false → zero_ℚ ≡ (readings_of t).entry q r
  unmarked_is h r q b c e =
      sym (h.marked r (row_within a t r view b) q (omega (arith, column_within a t q view c)) e)
      ∙ sym (kept_entry (columns_of a) a.rows.items r q (column_within a t q view c))
      ∙ ap (λ t. (readings_of t).entry q r) view

  pub right_is : (r : ℕ) (row : Row) → r < length t.rows → row ≡ slice_index_or a.rows.items r row
      → number_of row.now (columns_of a) ≡ (readings_of t).right r
  right_is r row b is =
      ap (λ x. number_of x.now (columns_of a)) is
      ∙ sym (ap (λ o. numbers o (columns_of a)) (row_is a.rows.items r row
      (row_within a t r view b)))
      ∙ sym (kept_right (columns_of a) a.rows.items r)
      ∙ ap (λ t. (readings_of t).right r) view

  pub first_is : (q : ℕ) → q < width t → number_of a.costs.first.now q ≡ cell t.first q
  first_is q c =
      sym (cell-listed (columns_of a) (number_of a.costs.first.now) q (column_within a t q view c))
      ∙ ap (λ t. cell t.first q) view

  pub second_is : (q : ℕ) → q < width t → number_of a.costs.second.now q ≡ cell t.second q
  second_is q c =
      sym (cell-listed (columns_of a) (number_of a.costs.second.now) q (column_within a t q view c))
      ∙ ap (λ t. cell t.second q) view

  pub nonzero_is : (r : ℕ) (row : Row) → r < length t.rows → row ≡ slice_index_or a.rows.items r row
      → (q : ℕ) → (q < a.reals) × ¬ (number_of row.now q ≡ zero_ℚ)
      → (q < t.reals) × ¬ ((readings_of t).entry q r ≡ zero_ℚ)
  nonzero_is r row b is q h = (
    subst (λ t. q < t.reals) view h.0,
    λ e. h.1 (entry_is r q row b (subst (λ t. q < width t) view (real_column q a.reals _ h.0))
        is ∙ e),
  )

  listed_negative : (f : ℕ → Rational) → least_below a.reals (λ j. is_below (f j) zero_ℚ)
      ≡ least_below a.reals (λ j. is_below (cell (listed (columns_of a) f) j) zero_ℚ)
  listed_negative f =
      least_below_same a.reals (λ j. is_below (f j) zero_ℚ)
      (λ j. is_below (cell (listed (columns_of a) f) j) zero_ℚ) (λ j b. ap (λ x. is_below x zero_ℚ)
      (sym (cell-listed (columns_of a) f j (omega (arith, b)))))

  pub first_entering : least_below a.reals (λ j. is_below (number_of a.costs.first.now j) zero_ℚ)
      ≡ entering (readings_of t) (cell t.first)
  first_entering =
      listed_negative (number_of a.costs.first.now)
      ∙ ap (λ t. entering (readings_of t) (cell t.first)) view

  pub second_entering : least_below a.reals (λ j. is_below (number_of a.costs.second.now j) zero_ℚ)
      ≡ entering (readings_of t) (cell t.second)
  second_entering =
      listed_negative (number_of a.costs.second.now)
      ∙ ap (λ t. entering (readings_of t) (cell t.second)) view

  pub swept_is : (r : ℕ) (row : Row) → r < length t.rows → row ≡ slice_index_or a.rows.items r row
      → least_below a.reals (λ j. not (rational_eq (number_of row.now j) zero_ℚ))
      ≡ swept_column (readings_of t) r
  swept_is r row b is =
      least_below_same a.reals (λ j. not (rational_eq (number_of row.now j) zero_ℚ))
      (λ j. not (rational_eq ((readings_of (contents_of a)).entry j r) zero_ℚ))
      (λ j c. ap (λ x. not (rational_eq x zero_ℚ)) (ap (λ x. number_of x.now j) is
      ∙ sym (ap (λ o. numbers o j) (row_is a.rows.items r row (row_within a t r view b)))
      ∙ sym (kept_entry (columns_of a) a.rows.items r j (omega (arith, c)))))
      ∙ ap (λ t. swept_column (readings_of t) r) view

pub vec_count : (a : Inside) (n : ℕ) → n ≡ vec_len a.rows → n ≡ length a.rows.items
vec_count a n e = e ∙ a.rows.ok.0

-- ---- what was worked out, of rows that are the same

pub ready_same : (rows old_rows : List Row) (r q : ℕ) (items : List ℕ) (count : ℕ)
    (costs : CostRows) (step : Step) → rows ≡ old_rows
    → IsBoardReady old_rows r q items count costs step
    → IsBoardReady rows r q items count costs step
ready_same rows old_rows r q items count costs step e h =
    subst (λ l. IsBoardReady l r q items count costs step) (sym e) h

-- ---- the row that leaves is that of what is read

pub leaving_is : (a : Inside) (q : ℕ) (t : BoardContents) → contents_of a ≡ t → q < columns_of a
    → best_below (length a.rows.items) (may_leave a.rows.items q)
    (leaves_before a.rows.items a.basis.items (columns_of a) q) ≡ bland.leaving (readings_of t) q
leaving_is a q t view b =
    let R = readings_of (contents_of a) in
    let w = columns_of a in
    let rows = a.rows.items in
    best_below_same (may_leave rows q) (bland.may_leave R q)
    (leaves_before rows a.basis.items w q) (bland.leaves_before R q) (length rows)
    (λ i c. ap (is_below zero_ℚ) (sym (kept_entry w rows i q b)))
    (λ i k c d z.
    comes_before
    (sym (kept_right w rows i) z /ℚ sym (kept_entry w rows i q b) z)
    (sym (kept_right w rows k) z /ℚ sym (kept_entry w rows k q b) z)
    (nat_lt (slice_index_or a.basis.items i 0) (slice_index_or a.basis.items k 0)))
    ∙ ap (λ n. best_below n (bland.may_leave R q) (bland.leaves_before R q)) (sym (count_is w rows))
    ∙ ap (λ t. bland.leaving (readings_of t) q) view

pub leaving_row : (a : Inside) (q : ℕ) (t : BoardContents) (rows : List Row) (o : Option ℕ)
    → contents_of a ≡ t → rows ≡ a.rows.items → q < columns_of a
    → IfSome o (λ r. IsSparseCandidate rows q r)
    → IfSome o (λ r. (r < length t.rows) × (zero_ℚ ‹ℚ (readings_of t).entry q r))
leaving_row a q t rows None view is b h = h
leaving_row a q t rows (Some r) view is b h =
    subst (λ t. (r < length t.rows) × (zero_ℚ ‹ℚ (readings_of t).entry q r)) view (
      subst (λ n. r < n) (ap length is ∙ sym (count_is (columns_of a) a.rows.items)) h.within,
      subst (λ x. zero_ℚ ‹ℚ x) (ap (λ l. number_in_row l r q) is
          ∙ sym (kept_entry (columns_of a) a.rows.items r q b)) h.above,
    )
