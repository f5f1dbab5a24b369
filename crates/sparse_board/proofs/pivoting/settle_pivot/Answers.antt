use Rattle.std.proofs.Common.{◌<◌, ◌≡◌, ◌∙◌, ap, arith, slice_index_or, subst, sym}
use Rattle.sparse_board.specs.Mixed.{units_of}
use Rattle.sparse_board.specs.Mixed as mixed
use Rattle.sparse_board.specs.Rows.{AreSparseRowsWide, width_at}
use Rattle.sparse_board.proofs.MarkingSteps.{marked_after}
use Rattle.sparse_board.proofs.PivotSteps.{settled-all, settled-wide}
use Rattle.sparse_board.proofs.RowsSteps.{row_is}
use Rattle.sparse_board.proofs.pivoting.settle_pivot.Goals as goal
use Rattle.sparse_board.proofs.pivoting.settle_pivot.Goals.{After-exchange}

-- the pivot's row has as many columns as the step
row_width : (c : After-exchange)
    → mixed.width_of (slice_index_or c.settle_rows.new.rows c.args.r c.index-rows-r.result).now
    ≡ c.args.step.now.width
row_width c =
    sym (ap width_at (row_is c.settle_rows.new.rows c.args.r c.index-rows-r.result
    (subst (λ n. c.args.r < n) (sym c.settle_rows.auto.rows) c.requires.row)))
    ∙ c.settle_rows.ensures.widths c.args.r ∙ c.requires.wide c.args.r c.requires.row

pub exchange-requires : goal.exchange-requires
exchange-requires c =
    sym (sym (ap width_at (row_is c.settle_rows.new.rows c.args.r c.index-rows-r.result
    (subst (λ n. c.args.r < n) (sym c.settle_rows.auto.rows) c.requires.row)))
    ∙ c.settle_rows.ensures.widths c.args.r ∙ c.requires.wide c.args.r c.requires.row)

pub returns-clause-wide : goal.returns-clause-wide
returns-clause-wide c =
    settled-wide c.args.rows.now c.settle_rows.new.rows c.args.r c.args.step.now
    c.exchange.new.self c.settle_rows.auto.rows c.requires.row c.args.step.now.width
    (c.exchange.ensures.width ∙ row_width c) c.requires.wide c.settle_rows.ensures.widths

pub returns-clause-settled : goal.returns-clause-settled
returns-clause-settled c = λ w long first second.
    let step = c.args.step.now in
    settled-all c.args.rows.now c.settle_rows.new.rows c.args.r step c.exchange.new.self
    c.settle_rows.auto.rows c.requires.row
    w c.args.q c.args.costs.now c.settle.new.self
    (subst (λ n. AreSparseRowsWide n c.args.rows.now) long c.requires.wide) long
    c.args.changes.now.rows.items c.args.changes.now.count c.requires.ready
    (λ j b. c.exchange.ensures.now j (subst (λ n. j < n) (sym (row_width c ∙ long)) b))
    (c.settle_rows.ensures.lowered c.args.r c.requires.ready.lists) first second
    c.settle.ensures.first_lowered c.settle.ensures.second_lowered

pub returns-clause-sizes : goal.returns-clause-sizes
returns-clause-sizes c = c.mark_step.ensures.kept.sizes

pub returns-clause-marked : goal.returns-clause-marked
returns-clause-marked c =
    let step = c.args.step.now in
    let column : c.args.q < step.width = omega (arith, c.requires.column) in
    marked_after step.width c.args.r c.args.q c.args.rows.now c.settle_rows.new.rows
    (units_of step) c.exchange.new.self c.args.marks.now c.mark_step.new.marks
    c.settle_rows.auto.rows c.requires.row
    (λ j b. c.exchange.ensures.now j (subst (λ n. j < n) (sym (row_width c)) b))
    c.requires.wide column
    c.requires.marked c.mark_step.ensures.kept
    c.mark_step.ensures.marked
    c.requires.ready.divided
    (c.settle_rows.ensures.lowered c.args.r c.requires.ready.lists)
