use Rattle.std.specs.Prelude.{◌+◌, ◌≡◌, length, map}
use Rattle.std.specs.List.{zip}
use Rattle.std.proofs.Common.{◌∙◌, ap, drop, subst}
use Rattle.ratio_core.specs.Folds.{sum_from}
use Rattle.ratio_core.specs.Rational.{zero_ℚ}
use Rattle.certificates.specs.Duals.{row_with, rows_with}
use Rattle.cert_core.specs.Folds.{AddUp, gap_parts, gap_parts_of}
use Rattle.cert_core.proofs.Rows.{has_set_at, next_row, row_size, row_turn, rows_done}
use Rattle.cert_core.specs.CountedLaws.{counted_all}
use Rattle.adjoint_core.specs.CarriedBack.{GapFits, UnfitGap}
use Rattle.adjoint_core.specs.Walk.{row_place}
use Rattle.adjoint_core.proofs.GapSteps.{GapSoFar, gap_end, gap_refused, gap_step}
use Rattle.adjoint_core.proofs.InOrder.{told_on}
use Rattle.adjoint_core.proofs.gap.gap_of_rows.Goals as goal

pub with_row-requires-clause-size : goal.with_row-requires-clause-size
with_row-requires-clause-size c =
    let turn = row_turn c.args.rows.now.items c.loop-i.row-iterator c.next.new.self
    c.args.duals.now c.loop-i.i c.index-duals-i.result c.in-Some.row.now
    c.loop-i.invariant.1 c.in-Some.ensures.steps c.index-duals-i.is in
    ap length c.as_slice.ensures
    ∙ row_size c.args.duals.now c.args.rows.now.items c.loop-i.i c.index-duals-i.result
    c.in-Some.row.now c.requires.entries turn.duals turn.row
    turn.within

pub with_row-requires-clause-set : goal.with_row-requires-clause-set
with_row-requires-clause-set c =
    let turn = row_turn c.args.rows.now.items c.loop-i.row-iterator c.next.new.self
    c.args.duals.now c.loop-i.i c.index-duals-i.result c.in-Some.row.now
    c.loop-i.invariant.1 c.in-Some.ensures.steps c.index-duals-i.is in
    has_set_at c.args.rows.now.items c.loop-i.i c.in-Some.row.now c.requires.sets turn.row
    turn.within

pub returns-in_err-sum : goal.returns-in_err-sum
returns-in_err-sum c =
    let turn = row_turn c.args.rows.now.items c.loop-i.row-iterator c.next.new.self
    c.args.duals.now c.loop-i.i c.index-duals-i.result c.in-Some.row.now
    c.loop-i.invariant.1 c.in-Some.ensures.steps c.index-duals-i.is in
    let rows = c.args.rows.now.items in
    let hs = rows_with c.args.duals.now rows in
    let i = c.loop-i.i in
    let r = c.in-Some.row.now in
    let y = c.index-duals-i.result in
    let next = next_row c.args.duals.now rows i y r c.requires.entries.each turn.duals
    turn.row turn.within in
    let held = row_with y r in
    told_on c.from_residual.result c.in_err-sum.field-0.0
    (AddUp c.loop-i.sum (gap_parts_of (row_with c.as_slice.result.now r)))
    (GapFits zero_ℚ (zip (map row_place rows) hs))
    (λ q. q ≡ sum_from zero_ℚ (gap_parts hs))
    (λ q. q ≡ sum_from c.loop-i.sum (gap_parts_of (row_with c.as_slice.result.now r))) _
    (UnfitGap zero_ℚ (zip (map row_place rows) hs))
    c.from_residual.ensures.1 c.in_err-sum.ensures
    (λ at k. gap_refused zero_ℚ c.loop-i.sum (map row_place rows) (map row_place c.loop-i.row-iterator)
    (map row_place c.next.new.self) hs (drop i hs) (drop (i + 1) hs) (row_place r) held
    c.loop-i.invariant.0
    (ap (map row_place) c.in-Some.ensures.steps) next at
    (subst (λ z. ¬ (AddUp c.loop-i.sum (gap_parts_of (row_with z r)))) c.as_slice.ensures k.0, k.1))

pub loop-i-preserved : goal.loop-i-preserved
loop-i-preserved c =
    let turn = row_turn c.args.rows.now.items c.loop-i.row-iterator c.next.new.self
    c.args.duals.now c.loop-i.i c.index-duals-i.result c.in-Some.row.now
    c.loop-i.invariant.1 c.in-Some.ensures.steps c.index-duals-i.is in
    let rows = c.args.rows.now.items in
    let hs = rows_with c.args.duals.now rows in
    let i = c.loop-i.i in
    let r = c.in-Some.row.now in
    let y = c.index-duals-i.result in
    let next = next_row c.args.duals.now rows i y r c.requires.entries.each turn.duals
    turn.row turn.within in
    let told = subst (λ z. AddUp c.loop-i.sum (gap_parts_of (row_with z r))
    × (c.in_ok-sum.sum ≡ sum_from c.loop-i.sum (gap_parts_of (row_with z r)))) c.as_slice.ensures
    c.in_ok-sum.ensures in
    let step : GapSoFar zero_ℚ c.in_ok-sum.sum (map row_place rows)
    (map row_place c.next.new.self) hs (drop (i + 1) hs) =
    gap_step zero_ℚ c.loop-i.sum (map row_place rows) (map row_place c.loop-i.row-iterator)
    (map row_place c.next.new.self) hs (drop i hs) (drop (i + 1) hs) (row_place r)
    (row_with y r) c.loop-i.invariant.0
    (ap (map row_place) c.in-Some.ensures.steps) next
    c.in_ok-sum.sum told.0 told.1 in (step, turn.rest_is)

pub returns : goal.returns
returns c =
    let rows = c.args.rows.now.items in
    let hs = rows_with c.args.duals.now rows in
    gap_end zero_ℚ c.loop-i.sum (map row_place rows) (map row_place c.loop-i.row-iterator) hs
    (drop c.loop-i.i hs) c.loop-i.invariant.0
    (ap (map row_place) c.in-None.ensures.steps.0)
    (rows_done c.args.duals.now rows c.loop-i.i c.requires.entries.each
    (counted_all rows c.loop-i.row-iterator c.loop-i.i c.loop-i.invariant.1
    c.in-None.ensures.steps.0))
