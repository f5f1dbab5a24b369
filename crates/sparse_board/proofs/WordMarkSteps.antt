-- Marks of whole numbers, set word by word: by the words of a row's marks, and by those of a column.
use Rattle.std.specs.Prelude.{◌≡◌, ℕ, ◌+◌, ◌*◌, ◌/◌, ◌%◌, ◌<◌, ◌≤◌, true, ◌⊎◌, nat_eq, List, length, min, pos, slice_index, slice_index_or, take}
use Rattle.std.proofs.Common.{sym, ◌∙◌, ap, arith, subst, inl, inr, true≢false}
use Rattle.std.proofs.lemmas.List.{get_or-take, get_or_default, length-take}
use Rattle.std.specs.Int.{bit_at}
use Rattle.std.proofs.lemmas.Bool.{cases_lt, or_left, or_right}
use Rattle.std.proofs.lemmas.Nat.Bits.{bit_at-lt, bit_at-zero}
use Rattle.ratio_core.specs.Rational.{Rational, reduce, zero_ℚ}
use Rattle.rational_laws.specs.Over.{over-zero_ℚ}
use Rattle.simplex_laws.specs.BoundedSumLaws.{same_or_other}
use Rattle.sparse_board.specs.declared.marks.Marks.{Marks}
use Rattle.whole_rows.specs.Bits.{IsBitCleared}
use Rattle.whole_rows.specs.ColumnMarks.{mark_of}
use Rattle.whole_rows.specs.declared.narrow_row.NarrowRow.{NarrowRow}
use Rattle.whole_rows.specs.Rows as whole
use Rattle.whole_rows.proofs.CoverSteps.{zero_number}
use Rattle.whole_rows.proofs.MarkSteps.{mark_none}
use Rattle.whole_rows.specs.declared.step.NarrowStep.{NarrowStep}
use Rattle.sparse_board.specs.Marks.{IsWord, IsWordJoined, has}
use Rattle.sparse_board.specs.Marking.{AreBitsMarked, KeepMarks, MarksNumbers, MarksUnits, MarksWord}
use Rattle.sparse_board.proofs.MarkSteps.{has_within}
use Rattle.sparse_board.proofs.NumberLemmas.{sought}
use Rattle.whole_rows.proofs.BitSteps.{one_zero}
use Rattle.sparse_board.proofs.WordSteps.{bit_one}
use Rattle.sparse_board.proofs.MarkingSteps.{keep_more, keep_none, was_not}

-- ---- a column joined with a word

-- a column that is marked in the rows of a word's bits
pub word_here : (j k word : ℕ) (old new : Marks) → IsWordJoined j k word old new → (i : ℕ)
    → i < old.rows → i / 64 ≡ k → bit_at word (i % 64) ≡ 1 → has new j i ≡ true
word_here j k word old new join i b e f =
    join.here i b e
    ∙ or_right (has old j i) (nat_eq (bit_at word (i % 64)) 1) (ap (λ x. nat_eq x 1) f)

pub word_keeps : (j k word : ℕ) (old new : Marks) → IsWordJoined j k word old new
    → KeepMarks old new
word_keeps j k word old new join = record {
  sizes = join.sizes;
  kept = λ l i e. same_or_other (has new l i ≡ true) l j
      (λ f. same_or_other (has new l i ≡ true) (i / 64) k
      (λ g. ap (λ n. has new n i) f ∙ join.here i (has_within old l i e) g
      ∙ or_left (has old j i) (nat_eq (bit_at word (i % 64)) 1)
      (ap (λ n. has old n i) (sym f) ∙ e))
      (λ n. join.others l i (λ b. n b.1) ∙ e))
      (λ n. join.others l i (λ b. n b.0) ∙ e);
}

-- ---- whole numbers marked by the words of their row's marks

-- those of the bits that aren't left
pub record AreBitsMarkedBut (word rest start i w : ℕ) (old marks : Marks) : Type 0 where
  pub keep : KeepMarks old marks
  pub marked : (b : ℕ) → b < 64 → bit_at word b ≡ 1 → bit_at rest b ≡ 0 → start + b < w
      → has marks (start + b) i ≡ true

pub bits_marked_none : (word start i w : ℕ) (old : Marks)
    → AreBitsMarkedBut word word start i w old old
bits_marked_none word start i w old = record {
  keep = keep_none old;
  marked = λ b c e f d. absurd (one_zero (bit_at word b) e f);
}

pub bits_marked_more : (word rest start i w : ℕ) (old marks new : Marks) (bit next : ℕ)
    → AreBitsMarkedBut word rest start i w old marks → IsBitCleared bit rest next
    → KeepMarks marks new → (start + bit < w → has new (start + bit) i ≡ true)
    → AreBitsMarkedBut word next start i w old new
bits_marked_more word rest start i w old marks new bit next h cleared keep here = record {
  keep = keep_more old marks new h.keep keep;
  marked = λ b c e f d. same_or_other (has new (start + b) i ≡ true) b bit
      (λ g. ap (λ n. has new (start + n) i) g ∙ here (subst (λ n. start + n < w) g d))
      (λ n. keep.kept (start + b) i (h.marked b c e (sym (cleared.others b n) ∙ f) d));
}

pub bits_marked_all : (word rest start i w : ℕ) (old marks : Marks)
    → AreBitsMarkedBut word rest start i w old marks → rest ≡ 0
    → AreBitsMarked word start i w marks
bits_marked_all word rest start i w old marks h z b c e d =
    h.marked b c e (ap (λ x. bit_at x b) z ∙ bit_at-zero b) d

-- those of the first k words
pub record AreWordsOfRowMarked (row : NarrowRow) (i w : ℕ) (old marks : Marks) (k : ℕ) : Type 0
  where
    pub keep : KeepMarks old marks
    pub marked : (j : ℕ) → j < k * 64 → mark_of row.marks.items j ≡ 1 → j < w
        → has marks j i ≡ true

pub row_words_none : (row : NarrowRow) (i w : ℕ) (old : Marks)
    → AreWordsOfRowMarked row i w old old 0
row_words_none row i w old =
    record { keep = keep_none old; marked = λ j b. absurd (omega (arith, b)) }

pub row_words_more : (row : NarrowRow) (i w : ℕ) (old marks new : Marks) (k word : ℕ)
    → AreWordsOfRowMarked row i w old marks k → word ≡ slice_index row.marks.items k
    → KeepMarks marks new → AreBitsMarked word (k * 64) i w new
    → AreWordsOfRowMarked row i w old new (k + 1)
row_words_more row i w old marks new k word h is keep made = record {
  keep = keep_more old marks new h.keep keep;
  marked = λ j b e c. by_place j b e c (cases_lt j (k * 64));
}
  where
    word_lem : (j k : ℕ) → j < (k + 1) * 64 → k * 64 ≤ j → j / 64 ≡ k
    word_lem j k b c = omega (arith, b, c)

    whole_lem : (j k : ℕ) → j / 64 ≡ k → k * 64 + j % 64 ≡ j
    whole_lem j k e = omega (arith, e)

    by_place : (j : ℕ) → j < (k + 1) * 64 → mark_of row.marks.items j ≡ 1 → j < w
        → (j < k * 64) ⊎ (k * 64 ≤ j) → has new j i ≡ true
    by_place j b e c (inl d) = keep.kept j i (h.marked j d e c)
    by_place j b e c (inr d) =
        let at = word_lem j k b d in
        subst (λ n. has new n i ≡ true) (whole_lem j k at)
        (made (j % 64) (omega arith)
        (ap (λ x. bit_at x (j % 64)) is
        ∙ ap (λ n. bit_at (slice_index row.marks.items n) (j % 64)) (sym at) ∙ e)
        (subst (λ n. n < w) (sym (whole_lem j k at)) c))

-- and the right side, behind the columns
pub row_words_all : (row : NarrowRow) (i w : ℕ) (old marks new : Marks) (k : ℕ)
    → AreWordsOfRowMarked row i w old marks k → length row.marks.items ≤ k → KeepMarks marks new
    → (whole.width_of row < w → has new (whole.width_of row) i ≡ true)
    → w ≤ whole.width_of row + 1 → MarksNumbers w (whole.number_of row) i new
row_words_all row i w old marks new k h all keep here wide j b e =
    by_end (cases_lt j (whole.width_of row))
  where
    below_lem : (j n l k : ℕ) → j < n → l ≡ n / 64 + 1 → l ≤ k → j < k * 64
    below_lem j n l k b e c = omega (arith, b, e, c)

    end_lem : (j n w : ℕ) → n ≤ j → j < w → w ≤ n + 1 → n ≡ j
    end_lem j n w c b d = omega (arith, c, b, d)

    by_end : (j < whole.width_of row) ⊎ (whole.width_of row ≤ j) → whole.number_of row j ≡ zero_ℚ
    by_end (inl c) =
        zero_number row j c (row.covers.unmarked j (mark_none row.marks.items j
        (λ f. true≢false (sym (keep.kept j i (h.marked j (below_lem j (whole.width_of row)
        (length row.marks.items) k c row.marks_long all) f b)) ∙ e))))
    by_end (inr c) =
        let at = end_lem j (whole.width_of row) w c b wide in
        absurd (true≢false (sym (subst (λ n. n < w → has new n i ≡ true) at here b) ∙ e))

-- ---- columns marked in the rows of a word's bits, which is the k-th of a column

-- the first n columns are
pub record IsWordMarkedTo (columns : List ℕ) (k word : ℕ) (old marks : Marks) (n : ℕ) : Type 0 where
  pub keep : KeepMarks old marks
  pub marked : (l : ℕ) → l < n → (i : ℕ) → i < old.rows → i / 64 ≡ k
      → bit_at word (i % 64) ≡ 1 → has marks (slice_index columns l) i ≡ true

pub word_marked_none : (columns : List ℕ) (k word : ℕ) (old : Marks)
    → IsWordMarkedTo columns k word old old 0
word_marked_none columns k word old =
    record { keep = keep_none old; marked = λ l b. absurd (omega (arith, b)) }

pub word_marked_more : (columns : List ℕ) (k word : ℕ) (old marks new : Marks) (n : ℕ)
    → IsWordMarkedTo columns k word old marks n
    → IsWordJoined (slice_index columns n) k word marks new
    → IsWordMarkedTo columns k word old new (n + 1)
word_marked_more columns k word old marks new n h join =
    let keep = word_keeps (slice_index columns n) k word marks new join in
    record {
      keep = keep_more old marks new h.keep keep;
      marked = λ l b i c d e. same_or_other (has new (slice_index columns l) i ≡ true) l n
          (λ f. ap (λ m. has new (slice_index columns m) i) f
          ∙ word_here (slice_index columns n) k word marks new join i
          (subst (λ m. i < m) (sym h.keep.sizes.rows) c) d e)
          (λ m. keep.kept (slice_index columns l) i (h.marked l (omega (arith, b, m)) i c d e));
    }

-- a word without bits
pub no_word_marked : (w k word : ℕ) (units : ℕ → Rational) (marks : Marks) → word ≡ 0
    → MarksWord w k word units marks
no_word_marked w k word units marks z i b e f =
    absurd (one_zero (bit_at word (i % 64)) f
    (ap (λ x. bit_at x (i % 64)) z ∙ bit_at-zero (i % 64)))

-- the step's listed columns, and its right side
module _ (step : NarrowStep) (k word : ℕ) (old marks new : Marks) (n : ℕ) (all : n ≡ step.used)
    (h : IsWordMarkedTo step.columns.items k word old marks n)
    (join : IsWordJoined (whole.width_of step.row) k word marks new) where
  listed_is : (l : ℕ) → l < length (take step.used step.columns.items)
      → (l < step.used) × (slice_index (take step.used step.columns.items) l
      ≡ slice_index step.columns.items l)
  listed_is l b =
      let c : l < step.used = below_lem l (subst (λ n. l < n)
      (length-take step.used step.columns.items) b) in
      (c, get_or-take step.used step.columns.items l 0 c)
    where
      below_lem : (l : ℕ) → l < min step.used (length step.columns.items) → l < step.used
      below_lem l c = omega (arith, c)

  zero_numerator : (j : ℕ) → j < whole.width_of step.row
      → slice_index_or step.row.numbers.items j (pos 0) ≡ pos 0
      → whole.number_of step.row j ≡ zero_ℚ
  zero_numerator j b z =
      ap (λ n. reduce n step.row.den)
      (get_or_default step.row.numbers.items j step.row.side (pos 0) b ∙ z)
      ∙ sym (over-zero_ℚ step.row.den step.row.above)

  join_kept : KeepMarks marks new
  join_kept = word_keeps (whole.width_of step.row) k word marks new join

  pub narrow_kept : KeepMarks old new
  narrow_kept = keep_more old marks new h.keep join_kept

  pub narrow_marked : MarksWord (whole.width_of step.row + 1) k word (whole.number_of step.row) new
  narrow_marked i d p s j c e = by_end (cases_lt j (whole.width_of step.row))
    where
      before : i < old.rows
      before = subst (λ m. i < m) narrow_kept.sizes.rows d

      column : List ℕ
      column = take step.used step.columns.items

      by_place : j < whole.width_of step.row
          → ((l : ℕ) × (l < length column) × (slice_index column l ≡ j))
          ⊎ ((l : ℕ) → l < length column → ¬ (slice_index column l ≡ j))
          → whole.number_of step.row j ≡ zero_ℚ
      by_place b (inr none) = zero_numerator j b (step.lists.others j b none)
      by_place b (inl f) =
          let is = listed_is f.0 f.1 in
          absurd (true≢false (sym (join_kept.kept j i (subst (λ n. has marks n i ≡ true)
          (sym is.1 ∙ f.2) (h.marked f.0 (subst (λ m. f.0 < m) (sym all) is.0) i before p s)))
          ∙ e))

      by_end : (j < whole.width_of step.row) ⊎ (whole.width_of step.row ≤ j)
          → whole.number_of step.row j ≡ zero_ℚ
      by_end (inl b) = by_place b (sought column j (length column))
      by_end (inr b) =
          absurd (true≢false (sym (subst (λ m. has new m i ≡ true) (end_lem j _ c b)
          (word_here (whole.width_of step.row) k word marks new join i
          (subst (λ m. i < m) (sym h.keep.sizes.rows) before) p s)) ∙ e))
        where
          end_lem : (j w : ℕ) → j < w + 1 → w ≤ j → w ≡ j
          end_lem j w x y = omega (arith, x, y)

-- ---- the rows of the first k words of column q

pub record AreWordsMarkedTo (w q : ℕ) (units : ℕ → Rational) (old marks : Marks) (k : ℕ) : Type 0
  where
    pub keep : KeepMarks old marks
    pub marked : (i : ℕ) → i < k * 64 → has old q i ≡ true → MarksNumbers w units i marks

pub words_marked_none : (w q : ℕ) (units : ℕ → Rational) (old : Marks)
    → AreWordsMarkedTo w q units old old 0
words_marked_none w q units old =
    record { keep = keep_none old; marked = λ i b. absurd (omega (arith, b)) }

pub words_marked_more : (w q : ℕ) (units : ℕ → Rational) (old marks new : Marks) (k word : ℕ)
    → AreWordsMarkedTo w q units old marks k → IsWord q k word marks → KeepMarks marks new
    → MarksWord w k word units new → AreWordsMarkedTo w q units old new (k + 1)
words_marked_more w q units old marks new k word h read keep made = record {
  keep = keep_more old marks new h.keep keep;
  marked = λ i b p. by_place i b p (cases_lt i (k * 64));
}
  where
    place_lem : (i k : ℕ) → i < (k + 1) * 64 → k * 64 ≤ i → i / 64 ≡ k
    place_lem i k b c = omega (arith, b, c)

    by_place : (i : ℕ) → i < (k + 1) * 64 → has old q i ≡ true → (i < k * 64) ⊎ (k * 64 ≤ i)
        → MarksNumbers w units i new
    by_place i b p (inl c) = λ j d e. h.marked i c p j d (was_not marks new keep j i e)
    by_place i b p (inr c) =
        let now = h.keep.kept q i p in
        let within = has_within marks q i now in
        made i (subst (λ n. i < n) (sym keep.sizes.rows) within) (place_lem i k b c)
        (bit_one (bit_at word (i % 64)) (bit_at-lt word (i % 64))
        (sym (read i within (place_lem i k b c)) ∙ now))

pub words_marked_all : (w q : ℕ) (units : ℕ → Rational) (old marks : Marks) (k : ℕ)
    → AreWordsMarkedTo w q units old marks k → old.rows / 64 + 1 ≤ k
    → MarksUnits w q units old marks
words_marked_all w q units old marks k h all i p =
    h.marked i (below_lem i old.rows k (has_within old q i p) all) p
  where
    below_lem : (i n k : ℕ) → i < n → n / 64 + 1 ≤ k → i < k * 64
    below_lem i n k b c = omega (arith, b, c)

-- a listed column is one of the step's
pub listed_below : (step : NarrowStep) (k : ℕ) → k < step.used
    → slice_index step.columns.items k < whole.width_of step.row
listed_below step k b =
    subst (λ n. n < whole.width_of step.row) (get_or-take step.used step.columns.items k 0 b)
    (step.lists.within k (subst (λ n. k < n) (sym (length-take step.used step.columns.items
    ∙ min_lem step.used (length step.columns.items) step.fits)) b))
  where
    min_lem : (a b : ℕ) → a ≤ b → min a b ≡ a
    min_lem a b c = omega (arith, c)
