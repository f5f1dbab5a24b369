use Rattle.std.proofs.Common.{◌∙◌, ap, map, subst, sym}
use Rattle.fresh_bridging.specs.ModelImage.{row_item}
use Rattle.model_bridging.proofs.InOrder.{RowsSoFar, row_more, row_within, rows_end, rows_start}
use Rattle.model_bridging.proofs.model_plan.plan_rows.Goals as goal

pub loop-row-init : goal.loop-row-init
loop-row-init g c =
    let source = c.into_iter-row-iterator.ensures.into_iter_gives
    ∙ c.iter-row-items.ensures.items in
    subst (λ left. RowsSoFar (g.R.Rewriter.means c.args.rewriter.now) c.args.standing.now
    (map row_item c.args.rows.now.items) (map row_item left) c.args.plan.now c.args.plan.now
    (g.R.Rewriter.means c.args.rewriter.now) c.args.standing.now) (sym source)
    (rows_start (g.R.Rewriter.means c.args.rewriter.now) c.args.standing.now
    (map row_item c.args.rows.now.items) c.args.plan.now c.requires)

pub plan_row-requires : goal.plan_row-requires
plan_row-requires g c =
    let rows = c.args.rows.now.items in
    let at = c.loop-row in
    let row = c.in-Some.row.now in
    let next = ap (map row_item) c.in-Some.ensures.steps in
    row_within (g.R.Rewriter.means c.args.rewriter.now) c.args.standing.now (map row_item rows)
    (map row_item at.row-iterator) (map row_item c.next.new.self)
    (row_item row) c.args.plan.now at.plan (g.R.Rewriter.means at.rewriter) at.standing
    at.invariant next

pub loop-row-preserved : goal.loop-row-preserved
loop-row-preserved g c =
    let rows = c.args.rows.now.items in
    let at = c.loop-row in
    let row = c.in-Some.row.now in
    let next = ap (map row_item) c.in-Some.ensures.steps in
    row_more (g.R.Rewriter.means c.args.rewriter.now) c.args.standing.now (map row_item rows)
    (map row_item at.row-iterator) (map row_item c.next.new.self)
    (row_item row) c.args.plan.now at.plan (g.R.Rewriter.means at.rewriter) at.standing
    at.invariant next
    c.plan_row.new.plan (g.R.Rewriter.means c.plan_row.new.rewriter) c.plan_row.new.standing
    c.in-Ok.ensures.answer.0 c.in-Ok.ensures.answer.1 c.plan_row.ensures.means
    c.plan_row.ensures.same

pub returns-clause-answer : goal.returns-clause-answer
returns-clause-answer g c =
    let rows = c.args.rows.now.items in
    let at = c.loop-row in
    rows_end (g.R.Rewriter.means c.args.rewriter.now) c.args.standing.now (map row_item rows)
    (map row_item at.row-iterator) c.args.plan.now at.plan
    (g.R.Rewriter.means at.rewriter) at.standing at.invariant
    (ap (map row_item) c.in-None.ensures.steps.0)
