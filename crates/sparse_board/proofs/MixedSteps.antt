-- Rows of whole numbers or of fractions: what of them fits, and what is lowered.
use Rattle.std.specs.Prelude.{◌≡◌, ℕ, ◌+◌, ◌^◌, ◌<◌, ◌≤◌, Bool, true, false, ◌&&◌, not, MatchBool, Option, Some, None, if◌then◌else◌, ℤ, pos, refl}
use Rattle.std.proofs.Common.{sym, ◌∙◌, ap, arith, subst, true≢false}
use Rattle.ratio_core.specs.Rational.{Fits, Rational, fits, zero_ℚ, ◌*ℚ◌, ◌-ℚ◌, ◌/ℚ◌}
use Rattle.simplex_form.specs.Fit.{lowered_fits}
use Rattle.simplex_laws.specs.SearchLaws.{all_below_all, all_below_same}
use Rattle.tableau_core.specs.LoweringLaws.{lowered-zero, lowered_fits-zero, zero-step}
use Rattle.tableau_core.specs.BoardNumbers.{differences_fit, quotients_fit}
use Rattle.whole_rows.proofs.DivisionSteps.{numerator_small}
use Rattle.whole_rows.proofs.OnceSteps.{lowered_none}
use Rattle.whole_rows.specs.declared.narrow_row.NarrowRow.{NarrowRow}
use Rattle.whole_rows.specs.declared.plan.LoweringPlan.{LoweringPlan}
use Rattle.whole_rows.specs.FitLaws.{Fits_over}
use Rattle.whole_rows.specs.NarrowFit.{narrow_quotients_fit}
use Rattle.whole_rows.specs.Plans.{IsLoweringPlan}
use Rattle.whole_rows.specs.RowLaws.{row_fits, row_narrow}
use Rattle.whole_rows.specs.Rows as whole
use Rattle.sparse_board.specs.declared.mixed_row.MixedRow.{MixedRow}
use Rattle.sparse_board.specs.declared.row.Row.{Row}
use Rattle.sparse_board.specs.declared.sparse_row.SparseRow.{SparseRow}
use Rattle.sparse_board.specs.declared.step.Step.{Step}
use Rattle.sparse_board.specs.Lowering.{IsFinished, IsMixedLoweredBeside, IsMixedPrepared, IsMixedReady, IsRowPlanned}
use Rattle.sparse_board.specs.Mixed.{IsLeft, IsMixedLowered, IsPlanned, number_left, number_of, units_of, width_of}
use Rattle.sparse_board.specs.Numbers as sparse
use Rattle.sparse_board.proofs.NumberLemmas.{number_fits}

-- ---- what a row stands for

pub number_narrow : (row : MixedRow) → row.is_wide ≡ false → (j : ℕ)
    → number_of row j ≡ whole.number_of row.narrow j
number_narrow row e j = λ i.
    if e i then sparse.number_of row.wide j else whole.number_of row.narrow j

pub number_wide : (row : MixedRow) → row.is_wide ≡ true → (j : ℕ)
    → number_of row j ≡ sparse.number_of row.wide j
number_wide row e j = λ i.
    if e i then sparse.number_of row.wide j else whole.number_of row.narrow j

-- ---- what a step stands for

pub units_narrow : (step : Step) → step.is_narrow ≡ true → (j : ℕ)
    → units_of step j ≡ whole.number_of step.narrow.row j
units_narrow step e j = λ i.
    if e i then whole.number_of step.narrow.row j else sparse.number_of step.wide j

pub units_wide : (step : Step) → step.is_narrow ≡ false → (j : ℕ)
    → units_of step j ≡ sparse.number_of step.wide j
units_wide step e j = λ i.
    if e i then whole.number_of step.narrow.row j else sparse.number_of step.wide j

pub mixed_fits : (row : MixedRow) (j : ℕ) → Fits (number_of row j)
mixed_fits row j = by_kind row.is_wide
  where
    wider_lem : (x : ℕ) → x < 2 ^ 63 → x < 2 ^ 127
    wider_lem x h = omega (arith, h)

    by_kind : (b : Bool)
        → Fits (if b then sparse.number_of row.wide j else whole.number_of row.narrow j)
    by_kind true =
        number_fits (sparse.row_columns row.wide) (sparse.row_values row.wide) row.wide.sparse.fit j
    by_kind false =
        Fits_over (whole.numerator_of row.narrow j) row.narrow.den row.narrow.above
        (wider_lem _ (numerator_small row.narrow j)) (wider_lem _ row.narrow.small_den)

-- ---- a row whose entry is 0

pub zero_mixed_fits : (row : MixedRow) (w : ℕ) (by : Rational) (units : ℕ → Rational)
    → by ≡ zero_ℚ → differences_fit w (number_of row) by units ≡ true
zero_mixed_fits row w by units z =
    all_below_all w (λ j. lowered_fits (number_of row j) by (units j))
    (λ j b. lowered_fits-zero (number_of row j) by (units j) (zero-step by (units j) z)
    (mixed_fits row j))

pub zero_mixed_stays : (row : MixedRow) (by : Rational) (units : ℕ → Rational) → by ≡ zero_ℚ
    → IsMixedLowered by units row row
zero_mixed_stays row by units z = record {
  width = refl;
  numbers = λ j b. sym (lowered-zero (number_of row j) by (units j)
      (zero-step by (units j) z));
}

-- ---- a row of whole numbers, and such a step

abbrev pub in_place : MixedRow → Step → Bool
in_place row step = not row.is_wide && step.is_narrow

pub place_narrow : (row : MixedRow) (step : Step) → in_place row step ≡ true → row.is_wide ≡ false
place_narrow row step e = by_kind row.is_wide refl e
  where
    by_kind : (b : Bool) → row.is_wide ≡ b → (not b && step.is_narrow) ≡ true → row.is_wide ≡ false
    by_kind true f h = absurd (true≢false (sym h))
    by_kind false f h = f

pub place_step : (row : MixedRow) (step : Step) → in_place row step ≡ true → step.is_narrow ≡ true
place_step row step e = by_kind row.is_wide e
  where
    by_kind : (b : Bool) → (not b && step.is_narrow) ≡ true → step.is_narrow ≡ true
    by_kind true h = absurd (true≢false (sym h))
    by_kind false h = h

-- each product and difference fits
pub place_fits : (q : ℕ) (row : MixedRow) (step : Step) → in_place row step ≡ true
    → q < width_of row
    → differences_fit (width_of row) (number_of row) (number_of row q) (units_of step) ≡ true
place_fits q row step e within =
    all_below_same (width_of row)
    (λ j. lowered_fits (number_of row j) (number_of row q) (units_of step j))
    (λ j. lowered_fits (whole.number_of row.narrow j) (whole.number_of row.narrow q)
    (whole.number_of step.narrow.row j))
    (λ j b i. lowered_fits (number_narrow row (place_narrow row step e) j i)
    (number_narrow row (place_narrow row step e) q i)
    (units_narrow step (place_step row step e) j i))
    ∙ row_fits (width_of row) q row.narrow step.narrow.row within

-- ---- a row that is worked out

pub prepared_in_place : (q : ℕ) (step : Step) (row : Row) → in_place row.now step ≡ true
    → IsRowPlanned q step row → IsMixedPrepared q step row
prepared_in_place q step row e h =
    subst (λ b. MatchBool b (IsRowPlanned q step row) (MatchBool row.changes
    (IsMixedLoweredBeside (number_of row.now q) (units_of step) row.now row.next)
    (number_of row.now q ≡ zero_ℚ))) (sym e) h

pub in_place_prepared : (q : ℕ) (step : Step) (row : Row) → in_place row.now step ≡ true
    → IsMixedPrepared q step row → IsRowPlanned q step row
in_place_prepared q step row e h =
    subst (λ b. MatchBool b (IsRowPlanned q step row) (MatchBool row.changes
    (IsMixedLoweredBeside (number_of row.now q) (units_of step) row.now row.next)
    (number_of row.now q ≡ zero_ℚ))) e h

pub prepared_beside : (q : ℕ) (step : Step) (row : Row) → in_place row.now step ≡ false
    → MatchBool row.changes
    (IsMixedLoweredBeside (number_of row.now q) (units_of step) row.now row.next)
    (number_of row.now q ≡ zero_ℚ)
    → IsMixedPrepared q step row
prepared_beside q step row e h =
    subst (λ b. MatchBool b (IsRowPlanned q step row) (MatchBool row.changes
    (IsMixedLoweredBeside (number_of row.now q) (units_of step) row.now row.next)
    (number_of row.now q ≡ zero_ℚ))) (sym e) h

pub beside_prepared : (q : ℕ) (step : Step) (row : Row) → in_place row.now step ≡ false
    → IsMixedPrepared q step row
    → MatchBool row.changes
    (IsMixedLoweredBeside (number_of row.now q) (units_of step) row.now row.next)
    (number_of row.now q ≡ zero_ℚ)
beside_prepared q step row e h =
    subst (λ b. MatchBool b (IsRowPlanned q step row) (MatchBool row.changes
    (IsMixedLoweredBeside (number_of row.now q) (units_of step) row.now row.next)
    (number_of row.now q ≡ zero_ℚ))) e h

-- ---- a row that is put in place

pub settled_beside : (q : ℕ) (step : Step) (row : Row) (new : MixedRow)
    → in_place row.now step ≡ false → row.changes ≡ true → IsMixedPrepared q step row
    → width_of new ≡ width_of row.now
    → ((j : ℕ) → j < width_of row.now → number_of new j ≡ sparse.number_of row.next j)
    → IsMixedLowered (number_of row.now q) (units_of step) row.now new
settled_beside q step row new e f prepared wide taken = record {
  width = wide;
  numbers = λ j b. taken j b ∙ beside.numbers j b;
}
  where
    beside : IsMixedLoweredBeside (number_of row.now q) (units_of step) row.now row.next
    beside =
        subst (λ b. MatchBool b (IsMixedLoweredBeside (number_of row.now q) (units_of step) row.now
        row.next) (number_of row.now q ≡ zero_ℚ)) f (beside_prepared q step row e prepared)

pub settled_still : (q : ℕ) (step : Step) (row : Row) → in_place row.now step ≡ false
    → row.changes ≡ false → IsMixedPrepared q step row
    → IsMixedLowered (number_of row.now q) (units_of step) row.now row.now
settled_still q step row e f prepared =
    zero_mixed_stays row.now (number_of row.now q) (units_of step)
    (subst (λ b. MatchBool b (IsMixedLoweredBeside (number_of row.now q) (units_of step) row.now
    row.next) (number_of row.now q ≡ zero_ℚ)) f (beside_prepared q step row e prepared))

-- ---- a row that is put in place in two steps

pub left_narrow : (step : NarrowRow) (row : MixedRow) (by : ℤ) → row.is_wide ≡ false → (j : ℕ)
    → number_left step row by j ≡ whole.lowered_by step row.narrow by j
left_narrow step row by e j = λ i.
    if e i then sparse.number_of row.wide j else whole.lowered_by step row.narrow by j

-- nothing is left
pub left_none : (step : NarrowRow) (row : MixedRow) (by : ℤ) → by ≡ pos 0 → (j : ℕ)
    → number_left step row by j ≡ number_of row j
left_none step row by e j = by_kind row.is_wide
  where
    by_kind : (b : Bool)
        → (if b then sparse.number_of row.wide j else whole.lowered_by step row.narrow by j)
        ≡ (if b then sparse.number_of row.wide j else whole.number_of row.narrow j)
    by_kind true = refl
    by_kind false = lowered_none step row.narrow by e j

-- the row that is brought over is given by its parts
pub ready_numbers : (q : ℕ) (step : NarrowRow) (row : MixedRow) (is_wide : Bool) (wide : SparseRow)
    (narrow : NarrowRow) (by : ℤ) → row.is_wide ≡ false → is_wide ≡ false
    → whole.IsNarrowReady q step row.narrow narrow by → (j : ℕ) → j < width_of row
    → (if is_wide then sparse.number_of wide j else whole.lowered_by step narrow by j)
    ≡ number_of row j -ℚ number_of row q *ℚ whole.number_of step j
ready_numbers q step row is_wide wide narrow by e f ready j b =
    (λ i. if f i then sparse.number_of wide j else whole.lowered_by step narrow by j)
    ∙ ready.numbers j (room_lem j _ _ b row.room)
    ∙ (λ i. sym (number_narrow row e j) i -ℚ sym (number_narrow row e q) i
    *ℚ whole.number_of step j)
  where
    room_lem : (j w n : ℕ) → j < w → w ≤ n + 1 → j < n + 1
    room_lem j w n b h = omega (arith, b, h)

-- by the plan that there is
pub planned_by : (q : ℕ) (step : NarrowRow) (row : MixedRow) (o : Option LoweringPlan)
    (plan : LoweringPlan) (room : SparseRow) → o ≡ Some plan → IsPlanned q step row o room
    → IsLoweringPlan q step row.narrow plan
planned_by q step row o plan room is h = subst (λ p. IsPlanned q step row p room) is h

-- or in the room that there is
pub planned_beside : (q : ℕ) (step : NarrowRow) (row : MixedRow) (o : Option LoweringPlan)
    (room : SparseRow) → o ≡ None → IsPlanned q step row o room
    → sparse.width_of room ≡ width_of row
planned_beside q step row o room is h = subst (λ p. IsPlanned q step row p room) is h

pub ready_in_place : (q : ℕ) (step : Step) (row next : Row) → in_place row.now step ≡ true
    → width_of next.now ≡ width_of row.now → IsLeft step.narrow.row next.now next.left
    → ((j : ℕ) → j < width_of row.now → number_left step.narrow.row next.now next.left j
    ≡ number_of row.now j -ℚ number_of row.now q *ℚ whole.number_of step.narrow.row j)
    → IsMixedReady q step row next
ready_in_place q step row next e wide left low = record {
  width = wide;
  left = left;
  numbers = λ j b. low j b ∙ ap (λ u. number_of row.now j -ℚ number_of row.now q *ℚ u)
      (sym (units_narrow step (place_step row.now step e) j));
}

pub ready_beside : (q : ℕ) (step : Step) (row next : Row) → next.left ≡ pos 0
    → IsMixedLowered (number_of row.now q) (units_of step) row.now next.now
    → IsMixedReady q step row next
ready_beside q step row next e low = record {
  width = low.width;
  left = λ n. absurd (n e);
  numbers = λ j b. left_none step.narrow.row next.now next.left e j ∙ low.numbers j b;
}

pub finished_none : (step : Step) (row : Row) → row.left ≡ pos 0 → IsFinished step row row
finished_none step row e = record {
  width = refl;
  numbers = λ j b. sym (left_none step.narrow.row row.now row.left e j);
}

pub finished_by : (step : Step) (row next : Row) → row.now.is_wide ≡ false
    → width_of next.now ≡ width_of row.now
    → ((j : ℕ) → number_of next.now j
    ≡ whole.lowered_by step.narrow.row row.now.narrow row.left j)
    → IsFinished step row next
finished_by step row next e wide low = record {
  width = wide;
  numbers = λ j b. low j ∙ sym (left_narrow step.narrow.row row.now row.left e j);
}

pub finished_lowered : (q : ℕ) (step : Step) (row middle next : Row)
    → IsMixedReady q step row middle
    → IsFinished step middle next
    → IsMixedLowered (number_of row.now q) (units_of step) row.now next.now
finished_lowered q step row middle next ready finished = record {
  width = finished.width ∙ ready.width;
  numbers = λ j b. finished.numbers j (subst (λ n. j < n) (sym ready.width) b)
      ∙ ready.numbers j b;
}

-- ---- a row of whole numbers that is divided

pub quotients_narrow : (q : ℕ) (row : MixedRow) → row.is_wide ≡ false → q < width_of row
    → ¬ (number_of row q ≡ zero_ℚ)
    → quotients_fit (width_of row) (number_of row) (number_of row q) ≡ true
quotients_narrow q row e within nonzero =
    all_below_same (width_of row) (λ j. fits (number_of row j /ℚ number_of row q))
    (λ j. fits (whole.number_of row.narrow j /ℚ whole.number_of row.narrow q))
    (λ j b i. fits (number_narrow row e j i /ℚ number_narrow row e q i))
    ∙ narrow_quotients_fit (width_of row) q (whole.number_of row.narrow)
    (row_narrow (width_of row) row.narrow) within
    (λ z. nonzero (number_narrow row e q ∙ z))

-- ---- a row of fractions that is divided

pub quotients_wide : (q : ℕ) (row : MixedRow) → row.is_wide ≡ true
    → quotients_fit (sparse.width_of row.wide) (sparse.number_of row.wide)
    (sparse.number_of row.wide q)
    ≡ quotients_fit (width_of row) (number_of row) (number_of row q)
quotients_wide q row e =
    ap (λ w. quotients_fit w (sparse.number_of row.wide) (sparse.number_of row.wide q)) (row.full e)
    ∙ all_below_same (width_of row)
    (λ j. fits (sparse.number_of row.wide j /ℚ sparse.number_of row.wide q))
    (λ j. fits (number_of row j /ℚ number_of row q))
    (λ j b i. fits (sym (number_wide row e j) i /ℚ sym (number_wide row e q) i))

-- what doesn't count where the step is narrow

pub same_units : (b : Bool) (x y z : Rational) → b ≡ true
    → (if b then x else y) ≡ (if b then x else z)
same_units b x y z e = (λ i. if e i then x else y) ∙ sym (λ i. if e i then x else z)

pub narrow_units : (b : Bool) (x y : Rational) → b ≡ true → x ≡ (if b then x else y)
narrow_units b x y e = sym (λ i. if e i then x else y)
