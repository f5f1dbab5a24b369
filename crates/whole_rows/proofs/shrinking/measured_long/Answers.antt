use Rattle.std.proofs.Common.{◌≡◌, ◌+◌, ◌*◌, ◌<◌, ◌≤◌, ◌∙◌, ℤ, FitsSigned, ap, ap₂, arith, length, rules, slice_index, subst, sym, to_z, of_z, unsigned_abs, w64}
use Rattle.std.specs.Prelude.{bit_or}
use Rattle.std.proofs.lemmas.Int.{to_z-of_z}
use Rattle.std.proofs.lemmas.List.{get_or_read}
use Rattle.std.proofs.lemmas.Nat.{or_comm}
use mir.Syntax.{w128}
use Rattle.whole_rows.specs.Over.{lowered_num}
use Rattle.whole_rows.specs.Rows.{width_of}
use Rattle.whole_rows.specs.Shrinking.{DividesTo, IsBelowOrSide, IsMeasuredOn, IsSizedTo}
use Rattle.whole_rows.proofs.CoverSteps.{joined_long}
use Rattle.whole_rows.proofs.DivisionSteps.{side_is_lem}
use Rattle.whole_rows.proofs.MarkSteps.{joined_word}
use Rattle.whole_rows.proofs.MeasuringSteps.{measured_all, measured_side}
use Rattle.whole_rows.proofs.WordSteps.{words_past}
use Rattle.whole_rows.proofs.shrinking.measured_long.Goals as goal
use Rattle.whole_rows.proofs.shrinking.measured_long.Goals.{After-index-in-loop-k}

pub loop-k-init : goal.loop-k-init
loop-k-init c =
    let row = c.args.row.now in
    let step = c.args.step.now in
    let by : ℤ = to_z w64 (of_z w64 c.args.by) in
    let x_fits : FitsSigned w128 c.lowered_long.result = search rules in
    measured_side row step c.args.over by c.unsigned_abs-greatest.result
    c.lesser_divisor-common.result c.requires.width
    (c.unsigned_abs-greatest.ensures.value
    ∙ ap unsigned_abs (to_z-of_z w128 c.lowered_long.result x_fits
    ∙ c.lowered_long.ensures.value
    ∙ (λ i. lowered_num (side_is_lem row i) c.args.over by (side_is_lem step i))))
    c.lesser_divisor-common.ensures.value c.lesser_divisor-common.ensures.positive

-- the word that is looked at, of both rows
module _ (c : After-index-in-loop-k) where
  below_row : c.loop-k.k < length c.args.row.now.marks.items
  below_row = omega (arith, c.loop-k-test.true, c.len-k-end.ensures, c.args.row.now.marks.ok.0)

  below_step : c.loop-k.k < length c.args.step.now.marks.items
  below_step =
      subst (λ n. c.loop-k.k < n)
      (sym (joined_long c.args.row.now c.args.step.now c.requires.width)) below_row

  word_is : bit_or c.index.result.now c.index-in-loop-k.result.now
      ≡ bit_or (slice_index c.args.row.now.marks.items c.loop-k.k)
      (slice_index c.args.step.now.marks.items c.loop-k.k)
  word_is =
      ap₂ bit_or
      (get_or_read c.args.row.now.marks.items c.loop-k.k c.index.result.now below_row
      c.index.ensures 0)
      (get_or_read c.args.step.now.marks.items c.loop-k.k c.index-in-loop-k.result.now below_step
      c.index-in-loop-k.ensures 0)

pub measured_word-measure-requires-clause-covers : goal.measured_word-measure-requires-clause-covers
measured_word-measure-requires-clause-covers c =
    let row = c.args.row.now in
    let step = c.args.step.now in
    joined_word row.marks.items step.marks.items row.numbers.items step.numbers.items c.loop-k.k _
    row.covers step.covers c.requires.width
    (word_is (goal.at.measured_word-measure-requires-clause-covers c).After-index-in-loop-k)

pub measured_word-measure-requires-clause-step_covers : goal.measured_word-measure-requires-clause-step_covers
measured_word-measure-requires-clause-step_covers c =
    let row = c.args.row.now in
    let step = c.args.step.now in
    joined_word step.marks.items row.marks.items step.numbers.items row.numbers.items c.loop-k.k _
    step.covers row.covers (sym c.requires.width)
    (word_is (goal.at.measured_word-measure-requires-clause-step_covers c).After-index-in-loop-k
    ∙ or_comm (slice_index row.marks.items c.loop-k.k) (slice_index step.marks.items c.loop-k.k))

pub loop-k-preserved : goal.loop-k-preserved
loop-k-preserved c =
    let next : c.loop-k.k * 64 + 64 ≡ (c.loop-k.k + 1) * 64 = omega arith in
    subst (λ n. IsMeasuredOn (IsBelowOrSide c.args.row.now n) c.args.row.now c.args.step.now
    c.args.over (to_z w64 (of_z w64 c.args.by)) c.measured_word-measure.result.common
    c.measured_word-measure.result.greatest) next c.measured_word-measure.ensures

pub returns-clause-common : goal.returns-clause-common
returns-clause-common c =
    let row = c.args.row.now in
    let step = c.args.step.now in
    let past : length row.marks.items ≤ c.loop-k.k =
    omega (arith, c.loop-k-test.false, c.len-k-end.ensures, row.marks.ok.0) in
    subst (λ b. DividesTo row step c.args.over b (width_of row + 1) c.loop-k.measure.common)
    (to_z-of_z w64 c.args.by c.ranges.by)
    (measured_all row step c.args.over (to_z w64 (of_z w64 c.args.by)) (c.loop-k.k * 64)
    c.loop-k.measure.common c.loop-k.measure.greatest c.loop-k.invariant
    (words_past (width_of row) (length row.marks.items) c.loop-k.k row.marks_long past)
    (width_of row + 1)).0

pub returns-clause-greatest : goal.returns-clause-greatest
returns-clause-greatest c =
    let row = c.args.row.now in
    let step = c.args.step.now in
    let past : length row.marks.items ≤ c.loop-k.k =
    omega (arith, c.loop-k-test.false, c.len-k-end.ensures, row.marks.ok.0) in
    subst (λ b. IsSizedTo row step c.args.over b (width_of row + 1) c.loop-k.measure.greatest)
    (to_z-of_z w64 c.args.by c.ranges.by)
    (measured_all row step c.args.over (to_z w64 (of_z w64 c.args.by)) (c.loop-k.k * 64)
    c.loop-k.measure.common c.loop-k.measure.greatest c.loop-k.invariant
    (words_past (width_of row) (length row.marks.items) c.loop-k.k row.marks_long past)
    (width_of row + 1)).1
