-- Marks that are set or taken away one after another.
use Rattle.std.specs.Prelude.{◌≡◌, ℕ, ◌+◌, ◌*◌, ◌/◌, ◌%◌, ◌<◌, Bool, true, false, ◌⊎◌, List, length, slice_index, slice_set, Some, refl}
use Rattle.std.proofs.Common.{sym, ◌∙◌, ap, arith, subst, inl, inr, true≢false}
use Rattle.std.proofs.lemmas.List.{length-set}
use Rattle.std.specs.Int.{bit_at}
use Rattle.std.proofs.lemmas.Bool.{or_left, or_right}
use Rattle.std.proofs.lemmas.Nat.Bits.{bit_at-lt}
use Rattle.ratio_core.specs.Rational.{Rational, inverse_ℚ, zero_ℚ, ◌*ℚ◌, ◌/ℚ◌}
use Rattle.rational_laws.specs.Field.{zero-*ℚ}
use Rattle.simplex_laws.specs.BoundedSumLaws.{same_or_other}
use Rattle.tableau_core.specs.LoweringLaws.{lowered-zero, step-zero, zero-step}
use Rattle.sparse_board.specs.declared.marks.Marks.{Marks}
use Rattle.sparse_board.specs.declared.row.Row.{Row}
use Rattle.sparse_board.specs.declared.mixed_row.MixedRow.{MixedRow}
use Rattle.sparse_board.specs.declared.sparse_row.SparseRow.{SparseRow}
use Rattle.sparse_board.specs.Mixed as mixed
use Rattle.sparse_board.specs.Numbers.{number_of, row_columns, row_values, width_of}
use Rattle.sparse_board.specs.Rows.{AreSparseRowsLowered, AreSparseRowsWide, now_at, now_of, number_in_row, numbers}
use Rattle.sparse_board.specs.Marks.{IsJoined, IsPut, IsWord, IsWordPut, SameSizes, has}
use Rattle.sparse_board.specs.Marking.{AreNumbersMarked, KeepMarks, MarksNumbers, MarksRow, MarksUnits}
use Rattle.sparse_board.specs.Words.{Clears}
use Rattle.tableau_core.specs.BoardNumbers.{quotient_at}
use Rattle.sparse_board.proofs.NumberLemmas.{number_missing, sought}
use Rattle.sparse_board.proofs.WordSteps.{bit_none, bit_one}
use Rattle.tableau_core.specs.ItemLaws.{written_at, written_off}

-- what isn't marked afterwards wasn't before
pub was_not : (old new : Marks) → KeepMarks old new → (j i : ℕ) → has new j i ≡ false
    → has old j i ≡ false
was_not old new keep j i e = by_test (has old j i) refl
  where
    by_test : (b : Bool) → has old j i ≡ b → b ≡ false
    by_test true f = absurd (true≢false (sym (keep.kept j i f) ∙ e))
    by_test false f = refl

pub sizes_none : (marks : Marks) → SameSizes marks marks
sizes_none marks = record { columns = refl; rows = refl }

pub sizes_more : (a b c : Marks) → SameSizes a b → SameSizes b c → SameSizes a c
sizes_more a b c h k = record { columns = k.columns ∙ h.columns; rows = k.rows ∙ h.rows }

pub keep_none : (marks : Marks) → KeepMarks marks marks
keep_none marks = record { sizes = sizes_none marks; kept = λ j i e. e }

pub keep_more : (a b c : Marks) → KeepMarks a b → KeepMarks b c → KeepMarks a c
keep_more a b c h k = record {
  sizes = sizes_more a b c h.sizes k.sizes;
  kept = λ j i e. k.kept j i (h.kept j i e);
}

pub put_keeps : (j i : ℕ) (old new : Marks) → IsPut j i true old new → KeepMarks old new
put_keeps j i old new put = record {
  sizes = put.sizes;
  kept = λ l k e. same_or_other (has new l k ≡ true) l j
      (λ f. same_or_other (has new l k ≡ true) k i
      (λ g. (λ z. has new (f z) (g z)) ∙ put.here)
      (λ n. put.others l k (λ b. n b.1) ∙ e))
      (λ n. put.others l k (λ b. n b.0) ∙ e);
}

pub join_keeps : (from to : ℕ) (old new : Marks) → IsJoined from to old new → KeepMarks old new
join_keeps from to old new join = record {
  sizes = join.sizes;
  kept = λ j i e. same_or_other (has new j i ≡ true) j to
      (λ f. ap (λ n. has new n i) f ∙ join.here i
      ∙ or_left (has old to i) (has old from i) (ap (λ n. has old n i) (sym f) ∙ e))
      (λ n. join.others j i n ∙ e);
}

-- ---- marks that are taken away

-- each number is marked still, or 0
pub record KeepsMarked (rows : List Row) (old now : Marks) : Type 0 where
  pub sizes : SameSizes old now
  pub marked : (w : ℕ) → AreNumbersMarked w old rows → AreNumbersMarked w now rows

pub unmarked_none : (rows : List Row) (marks : Marks) → KeepsMarked rows marks marks
unmarked_none rows marks = record { sizes = sizes_none marks; marked = λ w h. h }

-- a word whose bits of zeros are cleared
module _ (rows : List Row) (old now new : Marks) (q k word kept : ℕ)
    (h : KeepsMarked rows old now) (long : now.rows ≡ length rows) (read : IsWord q k word now)
    (put : IsWordPut q k kept now new)
    (clears : Clears (λ i. number_in_row rows i q ≡ zero_ℚ) (length rows) (k * 64) word kept) where
  left_zero : (w i : ℕ) → AreNumbersMarked w old rows → i < length rows → q < w → i / 64 ≡ k
      → has new q i ≡ false → number_in_row rows i q ≡ zero_ℚ
  left_zero w i marked b c g e = by_test (has now q i) refl
    where
      within : i < now.rows
      within = subst (λ n. i < n) (sym long) b

      cleared : bit_at kept (i % 64) ≡ 0
      cleared =
          bit_none (bit_at kept (i % 64)) (bit_at-lt kept (i % 64))
          (sym (put.here i (subst (λ n. i < n) (sym put.sizes.rows) within) g) ∙ e)

      place_lem : (i k : ℕ) → i / 64 ≡ k → k * 64 + i % 64 ≡ i
      place_lem i k g = omega (arith, g)

      by_test : (t : Bool) → has now q i ≡ t → number_in_row rows i q ≡ zero_ℚ
      by_test true f =
          subst (λ n. number_in_row rows n q ≡ zero_ℚ) (place_lem i k g)
          (clears (i % 64) (omega arith)
          (subst (λ n. n < length rows) (sym (place_lem i k g)) b)
          (bit_one (bit_at word (i % 64)) (bit_at-lt word (i % 64)) (sym (read i within g) ∙ f))
          cleared)
      by_test false f = h.marked w marked i b q c f

  pub unmarked_more : KeepsMarked rows old new
  unmarked_more = record {
    sizes = sizes_more old now new h.sizes put.sizes;
    marked = λ w marked i c j d e. same_or_other (number_in_row rows i j ≡ zero_ℚ) j q
        (λ f. same_or_other (number_in_row rows i j ≡ zero_ℚ) (i / 64) k
        (λ g. ap (number_in_row rows i) f
        ∙ left_zero w i marked c (subst (λ n. n < w) f d) g (ap (λ n. has new n i) (sym f) ∙ e))
        (λ n. h.marked w marked i c j d (sym (put.others j i (λ b. n b.1)) ∙ e)))
        (λ n. h.marked w marked i c j d (sym (put.others j i (λ b. n b.0)) ∙ e));
  }

-- ---- a row marked in its first k columns

pub record IsMarkedTo (columns : List ℕ) (i : ℕ) (old marks : Marks) (k : ℕ) : Type 0 where
  pub keep : KeepMarks old marks
  pub marked : (l : ℕ) → l < k → has marks (slice_index columns l) i ≡ true

pub marked_none : (columns : List ℕ) (i : ℕ) (old : Marks) → IsMarkedTo columns i old old 0
marked_none columns i old =
    record { keep = keep_none old; marked = λ l b. absurd (omega (arith, b)) }

pub marked_more : (columns : List ℕ) (i : ℕ) (old marks new : Marks) (k : ℕ)
    → IsMarkedTo columns i old marks k → IsPut (slice_index columns k) i true marks new
    → IsMarkedTo columns i old new (k + 1)
marked_more columns i old marks new k h put =
    let keep = put_keeps (slice_index columns k) i marks new put in
    record {
      keep = keep_more old marks new h.keep keep;
      marked =
          λ l c. same_or_other (has new (slice_index columns l) i ≡ true) l k
          (λ e. ap (λ n. has new (slice_index columns n) i) e ∙ put.here)
          (λ n. keep.kept (slice_index columns l) i (h.marked l (omega (arith, c, n))));
    }

pub marked_all : (row : SparseRow) (i : ℕ) (old marks : Marks) (k : ℕ)
    → k ≡ length (row_columns row) → IsMarkedTo (row_columns row) i old marks k
    → MarksNumbers (width_of row) (number_of row) i marks
marked_all row i old marks k all h j b e = by_place (sought (row_columns row) j k)
  where
    by_place : ((l : ℕ) × (l < k) × (slice_index (row_columns row) l ≡ j)) ⊎ ((l : ℕ) → l < k
        → ¬ (slice_index (row_columns row) l ≡ j)) → number_of row j ≡ zero_ℚ
    by_place (inl f) =
        absurd (true≢false (sym (subst (λ c. has marks c i ≡ true) f.2 (h.marked f.0 f.1)) ∙ e))
    by_place (inr none) =
        number_missing (row_columns row) (row_values row) j
        (λ l c. none l (subst (λ n. l < n) (sym all) c))

-- ---- the rows below i marked

pub record AreMarkedTo (w : ℕ) (marks : Marks) (rows : List Row) (i : ℕ) : Type 0 where
  pub columns : marks.columns ≡ w
  pub count : marks.rows ≡ length rows
  pub marked : (k : ℕ) → k < i → (j : ℕ) → j < w → has marks j k ≡ false
      → number_in_row rows k j ≡ zero_ℚ

pub rows_marked_more : (w : ℕ) (marks new : Marks) (rows : List Row) (i : ℕ) (row : MixedRow)
    → AreMarkedTo w marks rows i → now_at rows i ≡ Some row → mixed.width_of row ≡ w
    → KeepMarks marks new → MarksRow row i new → AreMarkedTo w new rows (i + 1)
rows_marked_more w marks new rows i row h is wide keep marked = record {
  columns = keep.sizes.columns ∙ h.columns;
  count = keep.sizes.rows ∙ h.count;
  marked = λ k b j c e. same_or_other (number_in_row rows k j ≡ zero_ℚ) k i
      (λ f. subst (λ n. number_in_row rows n j ≡ zero_ℚ) (sym f) (ap (λ o. numbers o j) is
      ∙ marked j (subst (λ n. j < n) (sym wide) c) (subst (λ n. has new j n ≡ false) f e)))
      (λ m. h.marked k (omega (arith, b, m)) j c (was_not marks new keep j k e));
}

-- ---- the step's first k columns marked where column q is

pub record IsStepMarkedTo (columns : List ℕ) (q : ℕ) (old marks : Marks) (k : ℕ) : Type 0 where
  pub keep : KeepMarks old marks
  pub marked : (l : ℕ) → l < k → (i : ℕ) → has old q i ≡ true
      → has marks (slice_index columns l) i ≡ true

pub step_marked_none : (columns : List ℕ) (q : ℕ) (old : Marks)
    → IsStepMarkedTo columns q old old 0
step_marked_none columns q old =
    record { keep = keep_none old; marked = λ l b. absurd (omega (arith, b)) }

-- a column that is joined with column q is marked where that is
pub joined_marked : (q column : ℕ) (old marks new : Marks) → KeepMarks old marks
    → IsJoined q column marks new → (i : ℕ) → has old q i ≡ true → has new column i ≡ true
joined_marked q column old marks new keep join i e =
    join.here i ∙ or_right (has marks column i) (has marks q i) (keep.kept q i e)

pub step_marked_more : (columns : List ℕ) (q : ℕ) (old marks new : Marks) (k : ℕ)
    → IsStepMarkedTo columns q old marks k → IsJoined q (slice_index columns k) marks new
    → IsStepMarkedTo columns q old new (k + 1)
step_marked_more columns q old marks new k h join =
    let keep = join_keeps q (slice_index columns k) marks new join in
    record {
      keep = keep_more old marks new h.keep keep;
      marked = λ l b i e. same_or_other (has new (slice_index columns l) i ≡ true) l k
          (λ f. ap (λ n. has new (slice_index columns n) i) f
          ∙ joined_marked q (slice_index columns k) old marks new h.keep join i e)
          (λ n. keep.kept (slice_index columns l) i (h.marked l (omega (arith, b, n)) i e));
    }

pub step_marked_all : (step : SparseRow) (w q : ℕ) (old marks : Marks) (k : ℕ)
    → k ≡ length (row_columns step) → IsStepMarkedTo (row_columns step) q old marks k
    → MarksUnits w q (number_of step) old marks
step_marked_all step w q old marks k all h i p j c e = by_place (sought (row_columns step) j k)
  where
    by_place : ((l : ℕ) × (l < k) × (slice_index (row_columns step) l ≡ j)) ⊎ ((l : ℕ) → l < k
        → ¬ (slice_index (row_columns step) l ≡ j)) → number_of step j ≡ zero_ℚ
    by_place (inl f) =
        absurd (true≢false (sym (subst (λ n. has marks n i ≡ true) f.2 (h.marked f.0 f.1 i p)) ∙ e))
    by_place (inr none) =
        number_missing (row_columns step) (row_values step) j
        (λ l d. none l (subst (λ n. l < n) (sym all) d))

-- the same units, in as many columns
pub units_marked : (v w q : ℕ) (units others : ℕ → Rational) (old new : Marks) → v ≡ w
    → ((j : ℕ) → others j ≡ units j) → MarksUnits v q units old new
    → MarksUnits w q others old new
units_marked v w q units others old new e is h i p j c f =
    is j ∙ h i p j (subst (λ n. j < n) (sym e) c) f

-- ---- after a pivot

module _ (w r q : ℕ) (before middle : List Row) (units : ℕ → Rational) (new : Row)
    (old marks : Marks) (count : length middle ≡ length before) (row : r < length before)
    (is : (j : ℕ) → j < w → mixed.number_of new.now j ≡ units j)
    (wide : AreSparseRowsWide w before) (column : q < w)
    (marked : AreNumbersMarked w old before) (keep : KeepMarks old marks)
    (made : MarksUnits w q units old marks) where
  no_product : (i : ℕ) → i < length before → (j : ℕ) → j < w → has marks j i ≡ false
      → number_in_row before i q *ℚ units j ≡ zero_ℚ
  no_product i b j c e = by_test (has old q i) refl
    where
      by_test : (t : Bool) → has old q i ≡ t → number_in_row before i q *ℚ units j ≡ zero_ℚ
      by_test true f = step-zero (number_in_row before i q) (units j) (made i f j c e)
      by_test false f = zero-step (number_in_row before i q) (units j) (marked i b q column f)

  pub marked_after : ((j : ℕ) → j < w → units j ≡ quotient_at (number_in_row before) r q j)
      → AreSparseRowsLowered r q units before middle
      → AreNumbersMarked w marks (slice_set middle r new)
  marked_after divided low i b j c e =
      let here : i < length before = subst (λ n. i < n) (length-set middle r new ∙ count) b in
      let was : has old j i ≡ false = was_not old marks keep j i e in
      same_or_other (number_in_row (slice_set middle r new) i j ≡ zero_ℚ) i r
      (λ f. subst (λ n. number_in_row (slice_set middle r new) n j ≡ zero_ℚ) (sym f)
      (ap (λ o. numbers (now_of o) j) (written_at middle r new (subst (λ n. r < n) (sym count) row))
      ∙ is j c ∙ divided j c
      ∙ ap (λ x. x /ℚ number_in_row before r q)
      (marked r row j c (subst (λ n. has old j n ≡ false) f was))
      ∙ zero-*ℚ (inverse_ℚ (number_in_row before r q))))
      (λ m. ap (λ o. numbers (now_of o) j) (written_off middle r i new m)
      ∙ low i here m j (subst (λ n. j < n) (sym (wide i here)) c)
      ∙ lowered-zero (number_in_row before i j) (number_in_row before i q) (units j)
      (no_product i here j c e)
      ∙ marked i here j c was)
