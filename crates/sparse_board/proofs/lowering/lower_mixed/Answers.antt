use Rattle.std.proofs.Common.{◌∙◌}
use Rattle.sparse_board.proofs.RowSteps.{on_ok_then}
use Rattle.sparse_board.proofs.WideSteps.{wide_fits, wide_lowered, wide_units}
use Rattle.sparse_board.proofs.lowering.lower_mixed.Goals as goal

pub lower-requires-clause-units : goal.lower-requires-clause-units
lower-requires-clause-units c =
    wide_units c.args.row.now c.args.step.now c.count_below-inner.result c.deref.result.now
    c.count_below-inner.ensures.split c.deref.ensures.value c.if-row.true

pub returns-then-step-clause-fits : goal.returns-then-step-clause-fits
returns-then-step-clause-fits c =
    c.lower.ensures.fits
    ∙ wide_fits c.args.row.now c.args.step.now c.count_below-inner.result c.deref.result.now
    c.count_below-inner.ensures.split c.deref.ensures.value c.if-row.true c.if-step.true
    c.requires.both c.requires.step_width c.args.by.now

pub returns-then-step-clause-ok : goal.returns-then-step-clause-ok
returns-then-step-clause-ok c =
    on_ok_then c.lower.result _ _ (wide_lowered c.args.row.now c.args.step.now
    c.count_below-inner.result c.deref.result.now c.count_below-inner.ensures.split
    c.deref.ensures.value c.if-row.true c.if-step.true c.requires.both c.requires.step_width
    c.args.by.now c.lower.new.next) c.lower.ensures.ok
