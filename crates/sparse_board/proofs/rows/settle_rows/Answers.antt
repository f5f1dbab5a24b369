use Rattle.std.proofs.Common.{subst, sym}
use Rattle.sparse_board.specs.Changes.{AreRowsListed}
use Rattle.sparse_board.proofs.RowsSteps.{both-lowered, both-widths, ready-left}
use Rattle.sparse_board.proofs.rows.settle_rows.Goals as goal

pub finish_rows-requires-clause-listed : goal.finish_rows-requires-clause-listed
finish_rows-requires-clause-listed c =
    subst (λ n. AreRowsListed n c.args.changes.now.rows.items c.args.changes.now.count)
    (sym c.ready_rows.auto.rows) c.requires.listed

pub finish_rows-requires-clause-left : goal.finish_rows-requires-clause-left
finish_rows-requires-clause-left c =
    ready-left c.args.q c.args.step.now c.args.changes.now.rows.items c.args.changes.now.count
    c.args.rows.now c.ready_rows.new.rows c.ready_rows.ensures

pub returns-clause-widths : goal.returns-clause-widths
returns-clause-widths c =
    both-widths c.args.q c.args.step.now c.args.changes.now.rows.items c.args.changes.now.count
    c.args.rows.now c.ready_rows.new.rows c.ready_rows.ensures c.finish_rows.new.rows
    c.finish_rows.ensures

pub returns-clause-lowered : goal.returns-clause-lowered
returns-clause-lowered c =
    both-lowered c.args.q c.args.step.now c.args.changes.now.rows.items c.args.changes.now.count
    c.args.rows.now c.ready_rows.new.rows c.ready_rows.ensures c.finish_rows.new.rows
    c.finish_rows.ensures
