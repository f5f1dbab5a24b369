-- What is read of a board as it is kept, before and after a pivot.
use Rattle.std.specs.Prelude.{◌≡◌, ℕ, zero, suc, ◌+◌, ◌<◌, Bool, not, nat_lt, Option, None, Some, List, [], ◌∷◌, length, map, take, slice_index_or, slice_set, refl}
use Rattle.std.proofs.Common.{sym, ◌∙◌, ap, ap₂, arith, subst, IfSome}
use Rattle.std.proofs.lemmas.List.{length-map}
use Rattle.ratio_core.specs.Rational.{Rational, rational_eq, zero_ℚ, ◌/ℚ◌, ◌‹ℚ◌}
use Rattle.tableau_core.specs.declared.dense_board.DenseBoard.TheInside.{Inside}
use Rattle.tableau_core.specs.declared.kept.Row.{Row}
use Rattle.tableau_core.specs.Row.{AllFit, cell}
use Rattle.tableau_core.specs.Rows.{AreWide, now_at, numbers, numbers_in}
use Rattle.tableau_core.specs.ItemLaws.{read_at}
use Rattle.tableau_core.specs.BoardContents.{IsPivoted, BoardContents, readings_of, width}
use Rattle.tableau_core.specs.Kept.{IsDenseBoardKept, contents_of, width_of}
use Rattle.tableau_core.specs.KeptLaws.{column_kept, pivoted_read, row_kept, tests_read}
use Rattle.tableau_core.specs.BoardNumbers.{BoardNumbers, IsSettled, kept_readings, numbers_fit}
use Rattle.simplex_form.specs.Fit.{pivot_fits}
use Rattle.simplex_form.specs.Readings.{Agrees}
use Rattle.simplex_form.specs.Search.{best_below, least_below}
use Rattle.simplex_form.specs.Turns.{is_below, swept_column}
use Rattle.simplex_form.specs.Turns as bland
use Rattle.simplex_laws.specs.SearchLaws.{best_below_same, least_below_same}
use Rattle.tableau_core.specs.Leaving.{IsCandidate, comes_before, leaves_before, may_leave}

abbrev pub numbers_of : Inside → BoardNumbers
numbers_of a = numbers_in a.rows.items a.costs.first.now.items a.costs.second.now.items

-- ---- the board's value

cell-take : (w : ℕ) (row : List Rational) (j : ℕ) → j < w → cell (take w row) j ≡ cell row j
cell-take zero row j b = absurd (omega (arith, b))
cell-take (suc w) [] j b = refl
cell-take (suc w) (x ∷ row) zero b = refl
cell-take (suc w) (x ∷ row) (suc j) b = cell-take w row j (omega (arith, b))

pub kept_entry : (w : ℕ) (rows : List Row) (i j : ℕ) → j < w
    → cell (slice_index_or (map (λ row. take w row.now.items) rows) i []) j ≡ cell (now_at rows i) j
kept_entry w [] i j b = refl
kept_entry w (row ∷ rows) zero j b = cell-take w row.now.items j b
kept_entry w (row ∷ rows) (suc i) j b = kept_entry w rows i j b

pub kept_right : (w : ℕ) (rows : List Row) (i : ℕ) → cell (map (λ row. cell row.now.items w) rows) i
    ≡ cell (now_at rows i) w
kept_right w [] i = refl
kept_right w (row ∷ rows) zero = refl
kept_right w (row ∷ rows) (suc i) = kept_right w rows i

pub count_is : (w : ℕ) (rows : List Row) → length (map (λ row. take w row.now.items) rows)
    ≡ length rows
count_is w rows = length-map rows (λ row. take w row.now.items)

-- what is read of the value is what is kept
pub value_agrees : (in_first : Bool) (a : Inside) → Agrees in_first (readings_of (contents_of a))
    (kept_readings a.reals a.basis.items (numbers_of a))
value_agrees in_first a = record {
  rows = count_is (width_of a) a.rows.items;
  reals = refl;
  basis = refl;
  entries = λ i j b c. kept_entry (width_of a) a.rows.items i j c;
  rights = λ i b. kept_right (width_of a) a.rows.items i;
  first = λ u j b. refl;
  second = λ j b. refl;
}

-- the least column of a row's numbers that aren't 0 is that of its entries
pub swept_is : (a : Inside) (r : ℕ) (row : Row) (items : List Rational) (t : BoardContents)
    → contents_of a ≡ t → r < length a.rows.items → row ≡ slice_index_or a.rows.items r row
    → items ≡ row.now.items → least_below a.reals (λ j. not (rational_eq (cell items j) zero_ℚ))
    ≡ swept_column (readings_of t) r
swept_is a r row items t view b is e =
    least_below_same a.reals (λ j. not (rational_eq (cell items j) zero_ℚ))
    (λ j. not (rational_eq ((readings_of (contents_of a)).entry j r) zero_ℚ))
    (λ j c. ap (λ x. not (rational_eq x zero_ℚ))
    (ap (λ l. cell l j) (e ∙ ap (λ x. x.now.items) is
    ∙ sym (ap numbers (read_at a.rows.items r row b)))
    ∙ sym (kept_entry (width_of a) a.rows.items r j (omega (arith, c)))))
    ∙ ap (λ t. swept_column (readings_of t) r) view

-- the row that leaves is that of what is read
pub leaving_is : (a : Inside) (q : ℕ) (t : BoardContents) → contents_of a ≡ t → q < width_of a
    → best_below (length a.rows.items) (may_leave a.rows.items q)
    (leaves_before a.rows.items a.basis.items (width_of a) q) ≡ bland.leaving (readings_of t) q
leaving_is a q t view b =
    let R = readings_of (contents_of a) in
    let w = width_of a in
    let rows = a.rows.items in
    best_below_same (may_leave rows q) (bland.may_leave R q)
    (leaves_before rows a.basis.items w q) (bland.leaves_before R q) (length rows)
    (λ i c. ap (is_below zero_ℚ) (sym (kept_entry w rows i q b)))
    (λ i k c d z.
    comes_before
    (sym (kept_right w rows i) z /ℚ sym (kept_entry w rows i q b) z)
    (sym (kept_right w rows k) z /ℚ sym (kept_entry w rows k q b) z)
    (nat_lt (slice_index_or a.basis.items i 0) (slice_index_or a.basis.items k 0)))
    ∙ ap (λ n. best_below n (bland.may_leave R q) (bland.leaves_before R q)) (sym (count_is w rows))
    ∙ ap (λ t. bland.leaving (readings_of t) q) view

pub leaving_row : (a : Inside) (q : ℕ) (t : BoardContents) (rows : List Row) (o : Option ℕ)
    → contents_of a ≡ t → rows ≡ a.rows.items → q < width_of a
    → IfSome o (λ r. IsCandidate rows q r)
    → IfSome o (λ r. (r < length t.rows) × (zero_ℚ ‹ℚ (readings_of t).entry q r))
leaving_row a q t rows None view is b h = h
leaving_row a q t rows (Some r) view is b h =
    subst (λ t. (r < length t.rows) × (zero_ℚ ‹ℚ (readings_of t).entry q r)) view (
      subst (λ n. r < n) (ap length is ∙ sym (count_is (width_of a) a.rows.items)) h.within,
      subst (λ x. zero_ℚ ‹ℚ x) (ap (λ l. cell (now_at l r) q) is
          ∙ sym (kept_entry (width_of a) a.rows.items r q b)) h.above,
    )

-- a row and a column of the value are within what is kept
module _ (a : Inside) (t : BoardContents) where
  pub row_within : (r : ℕ) → contents_of a ≡ t → r < length t.rows → r < length a.rows.items
  row_within r view =
      row_kept a.reals a.basis.items (numbers_of a) (contents_of a) t view
      (value_agrees a.costs.in_first a) r

  pub column_within : (q : ℕ) → contents_of a ≡ t → q < width t → q < width_of a
  column_within q view =
      column_kept a.reals a.basis.items (numbers_of a) (contents_of a) t view
      (value_agrees a.costs.in_first a) q

  -- the tests that are made are those of what is read
  pub tests_same : (r q : ℕ) → contents_of a ≡ t → r < length t.rows → q < width t
      → numbers_fit (width_of a) r q a.costs.in_first (numbers_of a)
      ≡ pivot_fits t.in_first (readings_of t) r q
  tests_same r q view =
      tests_read a.reals a.basis.items (numbers_of a) (contents_of a) t view
      (value_agrees a.costs.in_first a) r q

-- ---- nothing has changed

standing_same : {X : Type 0} (f : List Rational → X) (rows others : List Row)
    → length rows ≡ length others → ((i : ℕ) → now_at rows i ≡ now_at others i)
    → map (λ row. f row.now.items) rows ≡ map (λ row. f row.now.items) others
standing_same f [] [] e h = refl
standing_same f [] (x ∷ xs) e h = absurd (omega (arith, e))
standing_same f (x ∷ xs) [] e h = absurd (omega (arith, e))
standing_same f (x ∷ xs) (y ∷ ys) e h =
    ap₂ (λ a b. a ∷ b) (ap f (h 0)) (standing_same f xs ys (omega (arith, e)) (λ i. h (suc i)))

module _ (a b : Inside) (reals : b.reals ≡ a.reals) (in_first : b.costs.in_first ≡ a.costs.in_first)
    (count : length b.rows.items ≡ length a.rows.items)
    (basis : b.basis.items ≡ a.basis.items) where
  width_is : width_of b ≡ width_of a
  width_is = ap₂ ◌+◌ reals count

  pub view_same : ((i : ℕ) → now_at b.rows.items i ≡ now_at a.rows.items i)
      → b.costs.first.now.items ≡ a.costs.first.now.items
      → b.costs.second.now.items ≡ a.costs.second.now.items
      → contents_of b ≡ contents_of a
  view_same rows first second = λ k. record {
    reals = reals k;
    rows = (ap (λ w. map (λ row. take w row.now.items) b.rows.items) width_is
        ∙ standing_same (take (width_of a)) b.rows.items a.rows.items count rows) k;
    rights = (ap (λ w. map (λ row. cell row.now.items w) b.rows.items) width_is
        ∙ standing_same (λ row. cell row (width_of a)) b.rows.items a.rows.items count rows) k;
    in_first = in_first k;
    first = first k;
    second = second k;
    basis = basis k;
  }

pub wide_after : (before after : List Row) (n : ℕ) → length after ≡ length before
    → ((i : ℕ) → now_at after i ≡ now_at before i) → AreWide n before → AreWide n after
wide_after before after n count rows wide i b =
    ap length (rows i) ∙ wide i (subst (λ k. i < k) count b)

-- the numbers of rows that stand as they did
pub numbers_same : (a : Inside) (rows : List Row) (first second : List Rational)
    → length rows ≡ length a.rows.items → ((i : ℕ) → now_at rows i ≡ now_at a.rows.items i)
    → first ≡ a.costs.first.now.items → second ≡ a.costs.second.now.items
    → numbers_in rows first second ≡ numbers_of a
numbers_same a rows first second count same first_is second_is = λ k. record {
  rows = count k;
  number = λ i. cell (same i k);
  first = cell (first_is k);
  second = cell (second_is k);
}

-- ---- after a pivot

module _ (a b : Inside) (reals : b.reals ≡ a.reals)
    (count : length b.rows.items ≡ length a.rows.items) where
  same_width : width_of b ≡ width_of a
  same_width = ap₂ ◌+◌ reals count

  pub kept_after : IsDenseBoardKept a → AreWide (width_of a + 1) b.rows.items
      → length b.costs.first.now.items ≡ length a.costs.first.now.items
      → length b.costs.second.now.items ≡ length a.costs.second.now.items
      → length b.step.items ≡ width_of a + 1
      → AllFit b.step.items → length b.places.items ≡ length a.places.items
      → length b.basis.items ≡ length a.basis.items → IsDenseBoardKept b
  kept_after h wide first second step fit places basis = record {
    places = places ∙ h.places ∙ ap (λ n. n + 1) (sym same_width);
    wide = λ i c. wide i c ∙ ap (λ n. n + 1) (sym same_width);
    spare = step ∙ ap (λ n. n + 1) (sym same_width);
    spare_fits = fit;
    first = first ∙ h.first ∙ sym same_width;
    second = second ∙ h.second ∙ sym same_width;
    basis = basis ∙ h.basis ∙ sym count;
  }

  -- `middle` are the rows as they stood, beside which the pivot was worked out
  pub pivoted_all : (r q : ℕ) (t : BoardContents) → contents_of a ≡ t → r < length t.rows
      → q < width t
      → b.costs.in_first ≡ a.costs.in_first → b.basis.items ≡ slice_set a.basis.items r q
      → (middle : BoardNumbers) → middle ≡ numbers_of a → (w : ℕ) → w ≡ width_of a
      → IsSettled w r q a.costs.in_first middle (numbers_of b) → IsPivoted r q t (contents_of b)
  pivoted_all r q t view row column in_first basis middle same w wide s =
      pivoted_read a.reals a.basis.items (numbers_of a) (contents_of a) t view
      (value_agrees a.costs.in_first a) r q row column
      b.reals b.basis.items (numbers_of b) (contents_of b) (value_agrees a.costs.in_first b)
      reals basis count in_first
      (subst (λ n. IsSettled n r q a.costs.in_first (numbers_of a) (numbers_of b)) wide
      (subst (λ K. IsSettled w r q a.costs.in_first K (numbers_of b)) same s))

-- ---- at the start

pub start-kept : (a : Inside) (m : ℕ) → length a.rows.items ≡ m
    → AreWide (a.reals + m + 1) a.rows.items → length a.costs.first.now.items ≡ a.reals + m
    → length a.costs.second.now.items ≡ a.reals + m → length a.step.items ≡ a.reals + m + 1
    → AllFit a.step.items → length a.places.items ≡ a.reals + m + 1
    → length a.basis.items ≡ m → IsDenseBoardKept a
start-kept a m count wide first second step fit places basis = record {
  places = places ∙ ap (λ n. n + 1) same_width;
  wide = λ i b. wide i b ∙ ap (λ n. n + 1) same_width;
  spare = step ∙ ap (λ n. n + 1) same_width;
  spare_fits = fit;
  first = first ∙ same_width;
  second = second ∙ same_width;
  basis = basis ∙ sym count;
}
  where
    same_width : a.reals + m ≡ width_of a
    same_width = ap (λ n. a.reals + n) (sym count)
