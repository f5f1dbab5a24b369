use Rattle.std.proofs.Common.{◌≡◌, ◌+◌, ◌<◌, ◌∙◌, ℤ, FitsSigned, ap, rules, subst, sym, to_z, of_z, unsigned_abs, w64}
use Rattle.std.proofs.lemmas.Int.{to_z-of_z}
use mir.Syntax.{w128}
use Rattle.whole_rows.specs.Over.{lowered_num}
use Rattle.whole_rows.specs.Rows.{width_of}
use Rattle.whole_rows.specs.Shrinking.{IsBelowOrSide, IsMeasuredOn, lowered_of}
use Rattle.whole_rows.proofs.BitSteps.{bit_kept}
use Rattle.whole_rows.proofs.DivisionSteps.{entry_is}
use Rattle.whole_rows.proofs.MeasuringSteps.{word_measured_end, word_measured_first, word_measured_next}
use Rattle.whole_rows.proofs.shrinking.measured_word.Goals as goal
use Rattle.whole_rows.proofs.shrinking.measured_word.Goals.{After-lowest}

below_lem : (c : After-lowest) → c.args.start + c.lowest.result < width_of c.args.row.now
below_lem c =
    c.requires.covers.within c.lowest.result c.lowest.ensures.within
    (c.loop-rest.invariant.within c.lowest.result c.lowest.ensures.within
    c.lowest.ensures.set)

pub loop-rest-init : goal.loop-rest-init
loop-rest-init c = record {
  within = λ i b e. e;
  measured = word_measured_first c.args.row.now c.args.step.now c.args.over
      (to_z w64 (of_z w64 c.args.by)) c.args.start c.args.word c.args.before.common
      c.args.before.greatest c.requires.width c.requires.covers c.requires.step_covers
      (subst (λ z. IsMeasuredOn (IsBelowOrSide c.args.row.now c.args.start) c.args.row.now
      c.args.step.now c.args.over z c.args.before.common c.args.before.greatest)
      (sym (to_z-of_z w64 c.args.by c.ranges.by)) c.requires.before);
}

pub loop-rest-preserved : goal.loop-rest-preserved
loop-rest-preserved c =
    let row = c.args.row.now in
    let step = c.args.step.now in
    let over = c.args.over in
    let by : ℤ = to_z w64 (of_z w64 c.args.by) in
    let bit = c.lowest.result in
    let j = c.args.start + bit in
    let below = below_lem (goal.at.loop-rest-preserved c).After-lowest in
    let x_fits : FitsSigned w128 c.lowered_long.result = search rules in
    let n_is = entry_is row j c.index.result.now below c.index.ensures in
    let u_is = entry_is step j c.index-in-loop-rest.result.now
    (subst (λ n. j < n) (sym c.requires.width) below) c.index-in-loop-rest.ensures in
    let size_is : c.unsigned_abs-size.result ≡ unsigned_abs (lowered_of row step over by j) =
    c.unsigned_abs-size.ensures.value
    ∙ ap unsigned_abs (to_z-of_z w128 c.lowered_long.result x_fits ∙ c.lowered_long.ensures.value
    ∙ (λ i. lowered_num (n_is i) over by (u_is i))) in
    let cleared = c.without_lowest-rest.ensures.cleared bit c.lowest.ensures in
    record {
      within = λ i b e. c.loop-rest.invariant.within i b
          (bit_kept bit c.loop-rest.rest c.without_lowest-rest.result i cleared e);
      measured = word_measured_next row step over by c.args.start c.loop-rest.rest bit
          c.without_lowest-rest.result c.loop-rest.common c.loop-rest.greatest
          c.unsigned_abs-size.result c.joined_long-next.result c.greater_size-greatest.result
          c.loop-rest.invariant.measured cleared size_is c.joined_long-next.ensures.value
          c.joined_long-next.ensures.positive c.greater_size-greatest.ensures.left
          c.greater_size-greatest.ensures.right;
    }

pub returns : goal.returns
returns c =
    subst (λ b. IsMeasuredOn (IsBelowOrSide c.args.row.now (c.args.start + 64)) c.args.row.now
    c.args.step.now c.args.over b c.loop-rest.common c.loop-rest.greatest)
    (to_z-of_z w64 c.args.by c.ranges.by)
    (word_measured_end c.args.row.now c.args.step.now c.args.over (to_z w64 (of_z w64 c.args.by))
    c.args.start c.loop-rest.rest c.loop-rest.common c.loop-rest.greatest
    c.loop-rest.invariant.measured c.loop-rest-test.false)
