use Rattle.std.proofs.Common.{◌<◌, arith, subst, sym, ◌∙◌}
use Rattle.sparse_board.proofs.MarkingSteps.{rows_marked_more}
use Rattle.sparse_board.proofs.RowsSteps.{row_is, row_wide}
use Rattle.sparse_board.proofs.marking.marks_of.Goals as goal

pub loop-i-init : goal.loop-i-init
loop-i-init c = record {
  columns = c.in_ok-marks.ensures.columns;
  count = c.in_ok-marks.ensures.rows;
  marked = λ k b. absurd (omega (arith, b));
}

pub mark-requires-clause-columns : goal.mark-requires-clause-columns
mark-requires-clause-columns c =
    c.loop-i.invariant.columns
    ∙ sym (row_wide c.args.width c.args.rows.now c.loop-i.i c.index-rows-i.result c.requires.wide
    c.loop-i-test.true)

pub loop-i-preserved : goal.loop-i-preserved
loop-i-preserved c =
    let rows = c.args.rows.now in
    rows_marked_more c.args.width c.loop-i.marks c.mark.new.marks rows c.loop-i.i _
    c.loop-i.invariant (row_is rows c.loop-i.i c.index-rows-i.result c.loop-i-test.true)
    (row_wide c.args.width rows c.loop-i.i c.index-rows-i.result c.requires.wide
    c.loop-i-test.true)
    c.mark.ensures.kept c.mark.ensures.marked

pub returns-clause-marked : goal.returns-clause-marked
returns-clause-marked c = λ i b. c.loop-i.invariant.marked i (omega (arith, b, c.loop-i-test.false))

pub returns-clause-columns : goal.returns-clause-columns
returns-clause-columns c = c.loop-i.invariant.columns

pub returns-clause-rows : goal.returns-clause-rows
returns-clause-rows c = c.loop-i.invariant.count

pub mark-requires-clause-row : goal.mark-requires-clause-row
mark-requires-clause-row c =
    subst (λ n. c.loop-i.i < n) (sym c.loop-i.invariant.count) c.loop-i-test.true
