-- Rows that are known to stay rows of whole numbers, so that nothing is worked out of them.
use Rattle.std.specs.Prelude.{◌≡◌, ℕ, ◌+◌, ◌<◌, true, false, ◌&&◌, not, nat_eq, MatchBool, List, length, slice_get, slice_index, slice_index_or, Option, Some, None, refl}
use Rattle.std.proofs.Common.{sym, ◌∙◌, ap, ap₂, arith, subst}
use Rattle.std.proofs.lemmas.Bool.{and_parts, eqb-true, not-true}
use Rattle.simplex_laws.specs.BoundedSumLaws.{same_or_other}
use Rattle.tableau_core.specs.BoardNumbers.{differences_fit}
use Rattle.whole_rows.specs.Rows as whole
use Rattle.whole_rows.proofs.UnitSteps.{small_stays}
use Rattle.sparse_board.specs.declared.mixed_row.MixedRow.{MixedRow}
use Rattle.sparse_board.specs.declared.row.Row.{Row}
use Rattle.sparse_board.specs.declared.step.Step.{Step}
use Rattle.sparse_board.specs.Changes.{AllStay, AreChangesPrepared, AreRowsListed}
use Rattle.sparse_board.specs.Lowering.{IsMixedPrepared}
use Rattle.sparse_board.specs.Mixed.{StaysWhole, is_small, is_unit, units_of}
use Rattle.sparse_board.specs.Rows.{AreSparseRowsWide, IsPreparedAt, StaysWholeAt, now_at, now_of, numbers, width_at}
use Rattle.sparse_board.proofs.MixedSteps.{place_fits}
use Rattle.sparse_board.proofs.RowsSteps.{ArePreparedTo, row_is}

-- a small row stays where the step is small too, and over 1
pub small_stays_whole : (q : ℕ) (step : Step) (row : MixedRow) → is_unit step ≡ true
    → is_small (whole.width_of step.narrow.row) row ≡ true → q < whole.width_of step.narrow.row
    → StaysWhole q step row
small_stays_whole q step row step_is row_is column =
    let columns = whole.width_of step.narrow.row in
    let step_parts = and_parts (step.is_narrow && nat_eq step.narrow.row.den 1)
    (whole.is_small step.narrow.row) step_is in
    let step_kind = and_parts step.is_narrow (nat_eq step.narrow.row.den 1) step_parts.0 in
    let row_parts = and_parts (not row.is_wide && nat_eq (whole.width_of row.narrow) columns)
    (whole.is_small row.narrow) row_is in
    let row_kind = and_parts (not row.is_wide) (nat_eq (whole.width_of row.narrow) columns)
    row_parts.0 in
    let width : columns ≡ whole.width_of row.narrow =
    sym (eqb-true (whole.width_of row.narrow) columns row_kind.1) in
    let unit : step.narrow.row.den ≡ 1 = eqb-true step.narrow.row.den 1 step_kind.1 in
    record {
      narrow = not-true row.is_wide row_kind.0;
      step_narrow = step_kind.0;
      unit = unit;
      column = subst (λ n. q < n) width column;
      width = width;
      stays = small_stays q step.narrow.row row.narrow unit step_parts.1 row_parts.1;
    }

-- whether a step says so counts for nothing
pub stays_same : (q : ℕ) (step next : Step) (o : Option MixedRow)
    → next.is_narrow ≡ step.is_narrow → next.narrow ≡ step.narrow → StaysWholeAt q step o
    → StaysWholeAt q next o
stays_same q step next None e f h = tt
stays_same q step next (Some row) e f h = record {
  narrow = h.narrow;
  step_narrow = e ∙ h.step_narrow;
  unit = subst (λ n. n.row.den ≡ 1) (sym f) h.unit;
  column = h.column;
  width = subst (λ n. whole.width_of n.row ≡ whole.width_of row.narrow) (sym f) h.width;
  stays = subst (λ n. whole.stays_narrow q n.row row.narrow ≡ true) (sym f) h.stays;
}

-- the first k of the listed rows stay
abbrev pub StayTo : ℕ → Step → List ℕ → List Row → ℕ → Type 0
StayTo q step items rows k =
    (l : ℕ) → l < k → StaysWholeAt q step (now_at rows (slice_index items l))

pub stay_none : (q : ℕ) (step : Step) (items : List ℕ) (rows : List Row)
    → StayTo q step items rows 0
stay_none q step items rows l b = absurd (omega (arith, b))

pub stay_more : (q : ℕ) (step : Step) (items : List ℕ) (rows : List Row) (k i : ℕ) (d : Row)
    → StayTo q step items rows k → i ≡ slice_index items k → i < length rows
    → StaysWhole q step (slice_index_or rows i d).now → StayTo q step items rows (k + 1)
stay_more q step items rows k i d h is within stays l c =
    same_or_other (StaysWholeAt q step (now_at rows (slice_index items l))) l k
    (λ e. subst (λ j. StaysWholeAt q step (now_at rows j)) (is ∙ ap (slice_index items) (sym e))
    (subst (StaysWholeAt q step) (sym (row_is rows i d within)) stays))
    (λ n. h l (omega (arith, c, n)))

-- ---- what is said of rows that were worked out

pub worked_out : (q : ℕ) (step : Step) (row : Row) → step.all_stay ≡ false
    → IsMixedPrepared q step row → IsPreparedAt q step (Some row)
worked_out q step row e =
    subst (λ b. MatchBool b (StaysWhole q step row.now) (IsMixedPrepared q step row)) (sym e)

pub out_worked : (q : ℕ) (step : Step) (row : Row) → step.all_stay ≡ false
    → IsPreparedAt q step (Some row) → IsMixedPrepared q step row
out_worked q step row e =
    subst (λ b. MatchBool b (StaysWhole q step row.now) (IsMixedPrepared q step row)) e

prepared_at : (q : ℕ) (step : Step) (o : Option Row) → step.all_stay ≡ true
    → StaysWholeAt q step (now_of o) → IsPreparedAt q step o
prepared_at q step None e h = tt
prepared_at q step (Some row) e h =
    subst (λ b. MatchBool b (StaysWhole q step row.now) (IsMixedPrepared q step row)) (sym e) h

stays_at : (q : ℕ) (step : Step) (o : Option Row) → step.all_stay ≡ true
    → IsPreparedAt q step o → StaysWholeAt q step (now_of o)
stays_at q step None e h = tt
stays_at q step (Some row) e h =
    subst (λ b. MatchBool b (StaysWhole q step row.now) (IsMixedPrepared q step row)) e h

pub stay_prepared : (q : ℕ) (step : Step) (items : List ℕ) (count : ℕ) (rows : List Row)
    → step.all_stay ≡ true → AllStay q step items count rows
    → AreChangesPrepared q step items count rows
stay_prepared q step items count rows e all k b =
    prepared_at q step (slice_get rows (slice_index items k)) e (all k b)

pub prepared_stay : (q : ℕ) (step : Step) (items : List ℕ) (count : ℕ) (rows : List Row)
    → step.all_stay ≡ true → AreChangesPrepared q step items count rows
    → AllStay q step items count rows
prepared_stay q step items count rows e all k b =
    stays_at q step (slice_get rows (slice_index items k)) e (all k b)

-- the row that is read stays
pub stay_read : (q : ℕ) (step : Step) (items : List ℕ) (count : ℕ) (before : List Row)
    (k i : ℕ) (row : Row) → Some row ≡ slice_get before i → i ≡ slice_index items k → k < count
    → AllStay q step items count before → StaysWhole q step row.now
stay_read q step items count before k i row stands is b all =
    subst (λ o. StaysWholeAt q step (now_of o)) (sym (stands ∙ ap (slice_get before) is)) (all k b)

-- each product and difference of them fits
module _ (w q : ℕ) (step : Step) (column : q < w) where
  fits_at : (o : Option MixedRow) → width_at o ≡ w → StaysWholeAt q step o
      → differences_fit w (numbers o) (numbers o q) (units_of step) ≡ true
  fits_at None e h = absurd (omega (arith, column, e))
  fits_at (Some row) e h =
      subst (λ n. differences_fit n (numbers (Some row)) (numbers (Some row) q) (units_of step)
      ≡ true) e
      (place_fits q row step (ap₂ (λ a b. not a && b) h.narrow h.step_narrow)
      (subst (λ n. q < n) (sym e) column))

  pub stay_to : (items : List ℕ) (count : ℕ) (before : List Row) → AreSparseRowsWide w before
      → AreRowsListed (length before) items count → step.all_stay ≡ true
      → AllStay q step items count before → ArePreparedTo w q step items before before count
  stay_to items count before wide listed e all = record {
    long = refl;
    stays = λ i. refl;
    fit = λ l b. fits_at (now_at before (slice_index items l)) (wide _ (listed.within l b)) (all l b);
    prepared = stay_prepared q step items count before e all;
  }
