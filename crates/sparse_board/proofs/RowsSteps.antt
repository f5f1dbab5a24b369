-- The rows that change worked out, or put in place, one after another.
use Rattle.std.specs.Prelude.{◌≡◌, ℕ, ◌+◌, ◌<◌, ◌≤◌, ◌⊎◌, Bool, true, false, ◌||◌, nat_eq, List, length, slice_index, slice_index_or, Option, Some, None, slice_get, slice_set, refl}
use Rattle.std.proofs.Common.{inl, inr, sym, ◌∙◌, ap, ap₂, arith, subst}
use Rattle.std.proofs.lemmas.Bool.{eq-eqb, ne_eqb}
use Rattle.std.proofs.lemmas.List.{get_or_default, length-set}
use Rattle.std.proofs.Math.Bool.{or-true}
use Rattle.ratio_core.specs.Rational.{Fits, Rational, zero_ℚ, ◌*ℚ◌, ◌-ℚ◌}
use Rattle.rational_laws.specs.Fitting.{Fits_zero}
use Rattle.simplex_form.specs.Fit.{lowered_fits}
use Rattle.tableau_core.specs.LoweringLaws.{lowered-zero, lowered_fits-zero, zero-step}
use Rattle.simplex_laws.specs.BoundedSumLaws.{same_or_other}
use Rattle.tableau_core.specs.ItemLaws.{each_written, read_at, written_at, written_off}
use Rattle.simplex_laws.specs.SearchLaws.{all_below_all, all_below_failed}
use Rattle.sparse_board.specs.declared.changes.Changes.{Changes}
use Rattle.sparse_board.specs.declared.row.Row.{Row}
use Rattle.sparse_board.specs.declared.mixed_row.MixedRow.{MixedRow}
use Rattle.sparse_board.specs.declared.step.Step.{Step}
use Rattle.sparse_board.specs.Mixed.{IsLeft, number_of, units_of, width_of}
use Rattle.tableau_core.specs.BoardNumbers.{differences_fit}
use Rattle.sparse_board.specs.Lowering.{IsFinished, IsMixedReady}
use Rattle.sparse_board.specs.Rows.{AreSparseRowsLowered, AreSparseRowsWide, IsPreparedAt, IsStepLeftAt, OnRows, now_at, now_of, number_in_row, numbers, rows_fit, width_at}
use Rattle.sparse_board.specs.Changes.{AreChanged, AreChangesPrepared, AreLeft, AreRowsListed, ListsChanges}
use Rattle.sparse_board.proofs.MixedSteps.{mixed_fits}
use Rattle.sparse_board.proofs.NumberLemmas.{sought}

-- the first k of the listed rows are worked out, and all stand
pub record ArePreparedTo (w q : ℕ) (step : Step) (items : List ℕ) (before rows : List Row)
    (k : ℕ) : Type 0 where
  pub long : length rows ≡ length before
  pub stays : (i : ℕ) → now_at rows i ≡ now_at before i
  pub fit : (l : ℕ) → l < k → differences_fit w (number_in_row before (slice_index items l))
      (number_in_row before (slice_index items l) q) (units_of step) ≡ true
  pub prepared : (l : ℕ) → l < k → IsPreparedAt q step (slice_get rows (slice_index items l))

-- what stands is lowered
abbrev pub IsLoweredNow : ℕ → (ℕ → Rational) → Option MixedRow → Option MixedRow → Type 0
IsLoweredNow q units old new =
    (j : ℕ) → j < width_at old → numbers new j ≡ numbers old j -ℚ numbers old q *ℚ units j

-- the first k of the listed rows are changed, and each other stays
pub record AreChangedTo (P : Row → Row → Type 0) (items : List ℕ) (before rows : List Row) (k : ℕ) :
    Type 0 where
  pub long : length rows ≡ length before
  pub changed : (l : ℕ) → l < k
      → OnRows P (slice_get before (slice_index items l)) (slice_get rows (slice_index items l))
  pub others : (i : ℕ) → ((l : ℕ) → l < k → ¬ (slice_index items l ≡ i))
      → slice_get rows i ≡ slice_get before i

-- ---- a row that is read

-- what stands in the row that is read
pub row_is : (rows : List Row) (i : ℕ) (d : Row) → i < length rows
    → now_at rows i ≡ Some (slice_index_or rows i d).now
row_is rows i d b = ap now_of (read_at rows i d b)

pub row_wide : (w : ℕ) (rows : List Row) (i : ℕ) (d : Row) → AreSparseRowsWide w rows
    → i < length rows
    → width_of (slice_index_or rows i d).now ≡ w
row_wide w rows i d wide b = sym (ap width_at (row_is rows i d b)) ∙ wide i b

-- ---- a row that is passed over

numbers_fit : (o : Option MixedRow) (j : ℕ) → Fits (numbers o j)
numbers_fit None j = Fits_zero
numbers_fit (Some row) j = mixed_fits row j

-- a row whose number of column q is 0 stays, and all fits
zero_fits : (w q : ℕ) (o : Option MixedRow) (units : ℕ → Rational) → numbers o q ≡ zero_ℚ
    → differences_fit w (numbers o) (numbers o q) units ≡ true
zero_fits w q o units z =
    all_below_all w (λ j. lowered_fits (numbers o j) (numbers o q) (units j))
    (λ j b. lowered_fits-zero (numbers o j) (numbers o q) (units j)
    (zero-step (numbers o q) (units j) z) (numbers_fit o j))

zero_stays : (q : ℕ) (o : Option MixedRow) (units : ℕ → Rational) → numbers o q ≡ zero_ℚ
    → IsLoweredNow q units o o
zero_stays q o units z j b =
    sym (lowered-zero (numbers o j) (numbers o q) (units j) (zero-step (numbers o q) (units j) z))

-- ---- the listed rows, one after another

-- the row that is read
pub listed_is : (changes : Changes) (k item : ℕ) → k < changes.count
    → item ≡ slice_index_or changes.rows.items k item → item ≡ slice_index changes.rows.items k
listed_is changes k item b is =
    is ∙ get_or_default changes.rows.items k item 0
    (omega (arith, b, changes.fits))

pub listed_within : (n k item : ℕ) (items : List ℕ) (count : ℕ) → AreRowsListed n items count
    → k < count → item ≡ slice_index items k → item < n
listed_within n k item items count h b is = subst (λ x. x < n) (sym is) (h.within k b)

-- it isn't one of those before it
listed_apart : (n : ℕ) (items : List ℕ) (count k l : ℕ) → AreRowsListed n items count → k < count
    → l < k → ¬ (slice_index items l ≡ slice_index items k)
listed_apart n items count k l h b c e = apart_lem _ _ (h.rising l k c b) e
  where
    apart_lem : (x y : ℕ) → x < y → x ≡ y → ⊥
    apart_lem x y b e = omega (arith, b, e)

-- ---- the rows worked out

pub prepared-none : (w q : ℕ) (step : Step) (items : List ℕ) (before : List Row)
    → ArePreparedTo w q step items before before 0
prepared-none w q step items before = record {
  long = refl;
  stays = λ i. refl;
  fit = λ l b. absurd (omega (arith, b));
  prepared = λ l b. absurd (omega (arith, b));
}

module _ (w q : ℕ) (step : Step) (items : List ℕ) (before rows : List Row) (k : ℕ)
    (h : ArePreparedTo w q step items before rows k) (wide : AreSparseRowsWide w before) where
  abbrev row_fits : ℕ → Bool
  row_fits i =
      differences_fit w (number_in_row before i) (number_in_row before i q) (units_of step)

  module _ (i : ℕ) (d : Row) (within : i < length before) where
    pub row_stands : Some (slice_index_or rows i d).now ≡ now_at before i
    row_stands = sym (row_is rows i d (subst (λ n. i < n) (sym h.long) within)) ∙ h.stays i

    pub prepared_wide : width_of (slice_index_or rows i d).now ≡ w
    prepared_wide = ap width_at row_stands ∙ wide i within

    fits_here : (t : Bool) → t ≡ differences_fit (width_of (slice_index_or rows i d).now)
        (number_of (slice_index_or rows i d).now) (number_of (slice_index_or rows i d).now q)
        (units_of step) → row_fits i ≡ t
    fits_here t fits =
        subst (λ o. differences_fit w (numbers o) (numbers o q) (units_of step) ≡ t) row_stands
        (subst (λ n. differences_fit n (number_of (slice_index_or rows i d).now)
        (number_of (slice_index_or rows i d).now q) (units_of step) ≡ t) prepared_wide (sym fits))

    -- what stands stays where a row is worked out
    pub prepared_stays : (new : Row) → new.now ≡ (slice_index_or rows i d).now → (j : ℕ)
        → now_at (slice_set rows i new) j ≡ now_at before j
    prepared_stays new same =
        each_written (λ j o. now_of o ≡ now_at before j) rows i new
        (subst (λ n. i < n) (sym h.long) within) (ap Some same ∙ row_stands) (λ j m. h.stays j)

    pub prepared-more : (new : Row) → i ≡ slice_index items k
        → new.now ≡ (slice_index_or rows i d).now
        → true ≡ differences_fit (width_of (slice_index_or rows i d).now)
        (number_of (slice_index_or rows i d).now) (number_of (slice_index_or rows i d).now q)
        (units_of step) → IsPreparedAt q step (Some new)
        → ArePreparedTo w q step items before (slice_set rows i new) (k + 1)
    prepared-more new is same fits made = record {
      long = length-set rows i new ∙ h.long;
      stays = prepared_stays new same;
      fit = λ l c. same_or_other (row_fits (slice_index items l) ≡ true) l k
          (λ e. ap row_fits (ap (slice_index items) e ∙ sym is) ∙ fits_here true fits)
          (λ n. h.fit l (omega (arith, c, n)));
      prepared = λ l c. each_written (λ j o. (m : ℕ) → m < k + 1 → slice_index items m ≡ j
          → IsPreparedAt q step o) rows i new (subst (λ n. i < n) (sym h.long) within)
          (λ _ _ _. made) (λ j off m e f. before_lem j off m e f) (slice_index items l) l c refl;
    }
      where
        before_lem : (j : ℕ) → ¬ (j ≡ i) → (m : ℕ) → m < k + 1 → slice_index items m ≡ j
            → IsPreparedAt q step (slice_get rows j)
        before_lem j off m e f =
            same_or_other (IsPreparedAt q step (slice_get rows j)) m k
            (λ g. absurd (off (sym f ∙ ap (slice_index items) g ∙ sym is)))
            (λ n. subst (λ x. IsPreparedAt q step (slice_get rows x)) f
            (h.prepared m (omega (arith, e, n))))

    -- a row that is refused
    pub rows-refused : (r : ℕ) → ¬ (i ≡ r)
        → false ≡ differences_fit (width_of (slice_index_or rows i d).now)
        (number_of (slice_index_or rows i d).now) (number_of (slice_index_or rows i d).now q)
        (units_of step) → rows_fit w r q (units_of step) before ≡ false
    rows-refused r n fits =
        all_below_failed (length before) i (λ j. nat_eq j r || row_fits j) within
        (ap₂ ◌||◌ (ne_eqb i r n) (fits_here false fits))

  -- all rows fit: one that isn't listed has no number in column q
  pub prepared-all : (r count : ℕ) → count ≤ k → ListsChanges before r q items count
      → rows_fit w r q (units_of step) before ≡ true
  prepared-all r count all lists =
      all_below_all (length before) (λ j. nat_eq j r || row_fits j)
      (λ j b. same_or_other ((nat_eq j r || row_fits j) ≡ true) j r
      (λ e. ap (λ x. x || row_fits j) (eq-eqb j r e))
      (λ n. ap (λ x. nat_eq j r || x) (by_place j b n (sought items j count))
      ∙ or-true (nat_eq j r)))
    where
      less_lem : (l count k : ℕ) → l < count → count ≤ k → l < k
      less_lem l count k b c = omega (arith, b, c)

      by_place : (j : ℕ) → j < length before → ¬ (j ≡ r)
          → ((l : ℕ) × (l < count) × (slice_index items l ≡ j))
          ⊎ ((l : ℕ) → l < count → ¬ (slice_index items l ≡ j)) → row_fits j ≡ true
      by_place j b n (inl f) = ap row_fits (sym f.2) ∙ h.fit f.0 (less_lem f.0 count k f.1 all)
      by_place j b n (inr none) =
          zero_fits w q (now_at before j) (units_of step) (lists.passed j b n none)

-- ---- the rows that are changed

pub changed-none : (P : Row → Row → Type 0) (items : List ℕ) (before : List Row)
    → AreChangedTo P items before before 0
changed-none P items before = record {
  long = refl;
  changed = λ l b. absurd (omega (arith, b));
  others = λ i off. refl;
}

module _ (P : Row → Row → Type 0) (items : List ℕ) (count : ℕ) (before rows : List Row) (k : ℕ)
    (h : AreChangedTo P items before rows k) (listed : AreRowsListed (length before) items count)
    (below : k < count) (i : ℕ) (is : i ≡ slice_index items k) (d : Row) where
  in_before : i < length before
  in_before = listed_within (length before) k i items count listed below is

  in_rows : i < length rows
  in_rows = subst (λ n. i < n) (sym h.long) in_before

  -- the row that is read stands as it was
  pub row_before : Some (slice_index_or rows i d) ≡ slice_get before i
  row_before =
      sym (read_at rows i d in_rows)
      ∙ h.others i (λ l b e. listed_apart (length before) items count k l listed below b (e ∙ is))

  pub changed-more : (new : Row) → P (slice_index_or rows i d) new
      → AreChangedTo P items before (slice_set rows i new) (k + 1)
  changed-more new made = record {
    long = length-set rows i new ∙ h.long;
    changed = λ l c. same_or_other (OnRows P (slice_get before (slice_index items l))
        (slice_get (slice_set rows i new) (slice_index items l))) l k
        (λ e. subst (λ j. OnRows P (slice_get before j) (slice_get (slice_set rows i new) j))
        (is ∙ ap (slice_index items) (sym e))
        (subst (OnRows P (slice_get before i)) (sym (written_at rows i new in_rows))
        (subst (λ o. OnRows P o (Some new)) row_before made)))
        (λ n. let c' : l < k = omega (arith, c, n) in
        subst (OnRows P (slice_get before (slice_index items l)))
        (sym (written_off rows i (slice_index items l) new (λ e.
        listed_apart (length before) items count k l listed below c' (e ∙ is))))
        (h.changed l c'));
    others = λ j off. written_off rows i j new (λ e. off k (omega arith) (sym is ∙ sym e))
        ∙ h.others j (λ l c. off l (omega (arith, c)));
  }

pub changed-all : (P : Row → Row → Type 0) (items : List ℕ) (count : ℕ) (before rows : List Row)
    (k : ℕ) → AreChangedTo P items before rows k → k ≡ count
    → AreChanged P items count before rows
changed-all P items count before rows k h e = record {
  changed = λ l b. h.changed l (subst (λ n. l < n) (sym e) b);
  others = λ i off. h.others i (λ l b. off l (subst (λ n. l < n) e b));
}

-- the row that is read was worked out
pub prepared_read : (q : ℕ) (step : Step) (items : List ℕ) (count : ℕ) (before : List Row)
    (k i : ℕ) (row : Row) → Some row ≡ slice_get before i → i ≡ slice_index items k → k < count
    → AreChangesPrepared q step items count before → IsPreparedAt q step (Some row)
prepared_read q step items count before k i row stands is b p =
    subst (IsPreparedAt q step)
    (sym (stands ∙ ap (slice_get before) is)) (p k b)

-- there is something left of the row that is read
pub left_read : (step : Step) (items : List ℕ) (count : ℕ) (before : List Row) (k i : ℕ) (row : Row)
    → Some row ≡ slice_get before i → i ≡ slice_index items k → k < count
    → AreLeft step items count before → IsLeft step.narrow.row row.now row.left
left_read step items count before k i row stands is b p =
    subst (IsStepLeftAt step) (sym (stands ∙ ap (slice_get before) is)) (p k b)

-- ---- both passes

ready_left : (q : ℕ) (step : Step) (o p : Option Row) → OnRows (IsMixedReady q step) o p
    → IsStepLeftAt step p
ready_left q step None p h = absurd h
ready_left q step (Some row) None h = absurd h
ready_left q step (Some row) (Some next) h = h.left

both_wide : (q : ℕ) (step : Step) (o m p : Option Row) → OnRows (IsMixedReady q step) o m
    → OnRows (IsFinished step) m p → width_at (now_of p) ≡ width_at (now_of o)
both_wide q step None m p h k = absurd h
both_wide q step (Some row) None p h k = absurd h
both_wide q step (Some row) (Some middle) None h k = absurd k
both_wide q step (Some row) (Some middle) (Some next) h k = k.width ∙ h.width

both_lowered : (q : ℕ) (step : Step) (o m p : Option Row) → OnRows (IsMixedReady q step) o m
    → OnRows (IsFinished step) m p → IsLoweredNow q (units_of step) (now_of o) (now_of p)
both_lowered q step None m p h k = absurd h
both_lowered q step (Some row) None p h k = absurd h
both_lowered q step (Some row) (Some middle) None h k = absurd k
both_lowered q step (Some row) (Some middle) (Some next) h k = λ j b.
    k.numbers j (subst (λ n. j < n) (sym h.width) b) ∙ h.numbers j b

module _ (q : ℕ) (step : Step) (items : List ℕ) (count : ℕ) (before middle : List Row)
    (first : AreChanged (IsMixedReady q step) items count before middle) where
  pub ready-left : AreLeft step items count middle
  ready-left k b =
      ready_left q step (slice_get before (slice_index items k))
      (slice_get middle (slice_index items k)) (first.changed k b)

  module _ (after : List Row) (second : AreChanged (IsFinished step) items count middle after) where
    pub both-widths : (i : ℕ) → width_at (now_at after i) ≡ width_at (now_at before i)
    both-widths i = by_place (sought items i count)
      where
        by_place : ((l : ℕ) × (l < count) × (slice_index items l ≡ i))
            ⊎ ((l : ℕ) → l < count → ¬ (slice_index items l ≡ i))
            → width_at (now_at after i) ≡ width_at (now_at before i)
        by_place (inl f) =
            subst (λ j. width_at (now_at after j) ≡ width_at (now_at before j)) f.2
            (both_wide q step (slice_get before (slice_index items f.0))
            (slice_get middle (slice_index items f.0)) (slice_get after (slice_index items f.0))
            (first.changed f.0 f.1) (second.changed f.0 f.1))
        by_place (inr none) =
            ap (λ o. width_at (now_of o)) (second.others i none ∙ first.others i none)

    pub both-lowered : (r : ℕ) → ListsChanges before r q items count
        → AreSparseRowsLowered r q (units_of step) before after
    both-lowered r lists i b n = by_place (sought items i count)
      where
        by_place : ((l : ℕ) × (l < count) × (slice_index items l ≡ i))
            ⊎ ((l : ℕ) → l < count → ¬ (slice_index items l ≡ i))
            → IsLoweredNow q (units_of step) (now_at before i) (now_at after i)
        by_place (inl f) =
            subst (λ j. IsLoweredNow q (units_of step) (now_at before j) (now_at after j)) f.2
            (both_lowered q step (slice_get before (slice_index items f.0))
            (slice_get middle (slice_index items f.0)) (slice_get after (slice_index items f.0))
            (first.changed f.0 f.1) (second.changed f.0 f.1))
        by_place (inr none) =
            subst (IsLoweredNow q (units_of step) (now_at before i))
            (sym (ap now_of (second.others i none ∙ first.others i none)))
            (zero_stays q (now_at before i) (units_of step) (lists.passed i b n none))
