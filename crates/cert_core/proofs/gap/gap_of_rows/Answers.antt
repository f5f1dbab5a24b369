use Rattle.std.specs.Prelude.{◌≡◌, ◌+◌, length}
use Rattle.std.proofs.Common.{◌∙◌, ap, drop, subst, sym}
use Rattle.ratio_core.specs.Folds.{sum_from}
use Rattle.ratio_core.specs.Rational.{zero_ℚ}
use Rattle.ratio_core.specs.AnsweredLaws.{passed_on}
use Rattle.certificates.specs.Duals.{row_with, rows_with}
use Rattle.cert_core.specs.Folds.{AddUp, gap_parts, gap_parts_of}
use Rattle.cert_core.proofs.Rows.{has_set_at, next_row, row_size, rows_done, row_turn}
use Rattle.cert_core.proofs.Summed.{SummedAsAll, summed_end, summed_refused, summed_step}
use Rattle.cert_core.specs.CountedLaws.{counted_all}
use Rattle.cert_core.proofs.gap.gap_of_rows.Goals as goal

pub plus_row-requires-clause-size : goal.plus_row-requires-clause-size
plus_row-requires-clause-size c =
    let turn = row_turn c.args.rows.now.items c.loop-i.row-iterator c.next.new.self
    c.args.duals.now c.loop-i.i c.index-duals-i.result c.in-Some.row.now
    c.loop-i.invariant.1 c.in-Some.ensures.steps c.index-duals-i.is in
    ap length c.as_slice.ensures
    ∙ row_size c.args.duals.now c.args.rows.now.items c.loop-i.i c.index-duals-i.result
    c.in-Some.row.now c.requires.entries turn.duals turn.row
    turn.within

pub plus_row-requires-clause-set : goal.plus_row-requires-clause-set
plus_row-requires-clause-set c =
    let turn = row_turn c.args.rows.now.items c.loop-i.row-iterator c.next.new.self
    c.args.duals.now c.loop-i.i c.index-duals-i.result c.in-Some.row.now
    c.loop-i.invariant.1 c.in-Some.ensures.steps c.index-duals-i.is in
    has_set_at c.args.rows.now.items c.loop-i.i c.in-Some.row.now c.requires.sets turn.row
    turn.within

pub returns-in_err-sum : goal.returns-in_err-sum
returns-in_err-sum c =
    let turn = row_turn c.args.rows.now.items c.loop-i.row-iterator c.next.new.self
    c.args.duals.now c.loop-i.i c.index-duals-i.result c.in-Some.row.now
    c.loop-i.invariant.1 c.in-Some.ensures.steps c.index-duals-i.is in
    let hs = rows_with c.args.duals.now c.args.rows.now.items in
    let i = c.loop-i.i in
    let r = c.in-Some.row.now in
    let next = next_row c.args.duals.now c.args.rows.now.items i c.index-duals-i.result r
    c.requires.entries.each turn.duals turn.row turn.within in
    passed_on c.from_residual.result c.in_err-sum.field-0.0
    (AddUp c.loop-i.sum (gap_parts_of (row_with c.as_slice.result.now r)))
    (AddUp zero_ℚ (gap_parts hs)) (λ q. q ≡ sum_from zero_ℚ (gap_parts hs))
    (λ q. q ≡ sum_from c.loop-i.sum (gap_parts_of (row_with c.as_slice.result.now r)))
    c.from_residual.ensures.1 c.in_err-sum.ensures
    (λ all. subst (λ y. AddUp c.loop-i.sum (gap_parts_of (row_with y r))) (sym c.as_slice.ensures)
    (summed_refused zero_ℚ c.loop-i.sum (gap_parts hs) (gap_parts (drop i hs)) c.loop-i.invariant.0
    (gap_parts_of (row_with c.index-duals-i.result r)) (gap_parts (drop (i + 1) hs))
    (ap gap_parts next) all))

pub loop-i-preserved : goal.loop-i-preserved
loop-i-preserved c =
    let turn = row_turn c.args.rows.now.items c.loop-i.row-iterator c.next.new.self
    c.args.duals.now c.loop-i.i c.index-duals-i.result c.in-Some.row.now
    c.loop-i.invariant.1 c.in-Some.ensures.steps c.index-duals-i.is in
    let hs = rows_with c.args.duals.now c.args.rows.now.items in
    let i = c.loop-i.i in
    let r = c.in-Some.row.now in
    let next = next_row c.args.duals.now c.args.rows.now.items i c.index-duals-i.result r
    c.requires.entries.each turn.duals turn.row turn.within in
    let told = subst (λ y. AddUp c.loop-i.sum (gap_parts_of (row_with y r))
    × (c.in_ok-sum.sum ≡ sum_from c.loop-i.sum (gap_parts_of (row_with y r)))) c.as_slice.ensures
    c.in_ok-sum.ensures in
    let step : SummedAsAll zero_ℚ c.in_ok-sum.sum (gap_parts hs) (gap_parts (drop (c.loop-i.i + 1) hs)) =
    subst (λ s. SummedAsAll zero_ℚ s (gap_parts hs) (gap_parts (drop (i + 1) hs))) (sym told.1)
    (summed_step zero_ℚ c.loop-i.sum (gap_parts hs) (gap_parts (drop i hs)) c.loop-i.invariant.0
    (gap_parts_of (row_with c.index-duals-i.result r)) (gap_parts (drop (i + 1) hs))
    (ap gap_parts next) told.0) in (step, turn.rest_is)

pub returns : goal.returns
returns c =
    let hs = rows_with c.args.duals.now c.args.rows.now.items in
    summed_end zero_ℚ c.loop-i.sum (gap_parts hs) (gap_parts (drop c.loop-i.i hs))
    c.loop-i.invariant.0
    (ap gap_parts (rows_done c.args.duals.now c.args.rows.now.items c.loop-i.i c.requires.entries.each
    (counted_all c.args.rows.now.items c.loop-i.row-iterator c.loop-i.i
    c.loop-i.invariant.1 c.in-None.ensures.steps.0)))
