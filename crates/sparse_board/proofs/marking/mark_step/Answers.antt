use Rattle.std.proofs.Common.{sym, ◌+◌, ◌∙◌}
use Rattle.sparse_board.specs.Mixed.{units_of}
use Rattle.sparse_board.specs.Numbers as sparse
use Rattle.whole_rows.specs.Rows as whole
use Rattle.sparse_board.proofs.MarkingSteps.{units_marked}
use Rattle.sparse_board.proofs.MixedSteps.{units_narrow, units_wide}
use Rattle.sparse_board.proofs.marking.mark_step.Goals as goal

pub mark_narrow-requires-clause-columns : goal.mark_narrow-requires-clause-columns
mark_narrow-requires-clause-columns c = c.requires.columns ∙ c.args.step.now.room

pub returns-then-step-clause-marked : goal.returns-then-step-clause-marked
returns-then-step-clause-marked c =
    let step = c.args.step.now in
    units_marked (whole.width_of step.narrow.row + 1) step.width c.args.q
    (whole.number_of step.narrow.row) (units_of step) c.args.marks.now _ (sym step.room)
    (units_narrow step c.if-step.true) c.mark_narrow.ensures.marked

pub mark_wide-requires-clause-columns : goal.mark_wide-requires-clause-columns
mark_wide-requires-clause-columns c =
    c.requires.columns ∙ sym (c.args.step.now.full c.if-step.false)

pub returns-clause-marked : goal.returns-clause-marked
returns-clause-marked c =
    let step = c.args.step.now in
    units_marked (sparse.width_of step.wide) step.width c.args.q
    (sparse.number_of step.wide) (units_of step) c.args.marks.now _ (step.full c.if-step.false)
    (units_wide step c.if-step.false) c.mark_wide.ensures.marked
