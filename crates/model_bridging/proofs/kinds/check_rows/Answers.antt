use Rattle.model_bridging.specs.Kinds.{told}
use Rattle.model_bridging.proofs.KindSteps.{kinds_more, kinds_refused, next_row, row_kinds}
use Rattle.model_bridging.proofs.kinds.check_rows.Goals as goal

pub loop-row-preserved : goal.loop-row-preserved
loop-row-preserved g c =
    let rows = c.args.rows.now.items in
    let kept = told c.args.kept.now in
    let at = c.loop-row in
    let row = c.in-Some.row.now in
    let kind = c.row_kind.result in
    let next = c.in-Some.ensures.steps in
    kinds_more (g.R.Rewriter.means c.args.rewriter.now).choice (row_kinds kept rows)
    (row_kinds kept at.row-iterator) (row_kinds kept c.next.new.self)
    kind at.invariant
    (next_row kept at.row-iterator c.next.new.self row kind next c.row_kind.ensures)
    c.in_ok-check_kind.ensures

pub returns-in_err-check_kind : goal.returns-in_err-check_kind
returns-in_err-check_kind g c =
    let rows = c.args.rows.now.items in
    let kept = told c.args.kept.now in
    let at = c.loop-row in
    let row = c.in-Some.row.now in
    let kind = c.row_kind.result in
    let next = c.in-Some.ensures.steps in
    kinds_refused (g.R.Rewriter.means c.args.rewriter.now).choice (row_kinds kept rows)
    (row_kinds kept at.row-iterator) (row_kinds kept c.next.new.self)
    kind at.invariant
    (next_row kept at.row-iterator c.next.new.self row kind next c.row_kind.ensures) (Unit {0})
    (Unit {0}) c.from_residual.result c.in_err-check_kind.field-0.0
    c.from_residual.ensures.1 c.in_err-check_kind.ensures
