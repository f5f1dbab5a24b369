use Rattle.std.proofs.Common.{◌+◌, ap, drop, map}
use Rattle.map_laws.specs.LoopLaws.{next_item}
use Rattle.model_bridging.specs.Kinds.{told}
use Rattle.model_bridging.proofs.KindSteps.{kinds_more, kinds_refused, next_row, row_kinds}
use Rattle.model_bridging.proofs.found.check_found_rows.Goals as goal

pub loop-row-preserved : goal.loop-row-preserved
loop-row-preserved g c =
    let rows = c.args.rows.now in
    let kept = told c.args.kept.now in
    let i = c.loop-row.row-index in
    let row = c.row-item.result in
    let kind = c.row_kind.result in
    let next = ap (map (λ x. x.now))
    (next_item rows rows i row (λ j. rows) c.row-item.is c.loop-row-test.true) in
    kinds_more (g.R.Rewriter.means c.args.rewriter.now).choice
    (row_kinds kept (map (λ x. x.now) rows))
    (row_kinds kept (map (λ x. x.now) (drop i rows)))
    (row_kinds kept (map (λ x. x.now) (drop (i + 1) rows)))
    kind c.loop-row.invariant
    (next_row kept (map (λ x. x.now) (drop i rows)) (map (λ x. x.now) (drop (i + 1) rows)) row.now
    kind next c.row_kind.ensures)
    c.in_ok-check_kind.ensures

pub returns-in_err-check_kind : goal.returns-in_err-check_kind
returns-in_err-check_kind g c =
    let rows = c.args.rows.now in
    let kept = told c.args.kept.now in
    let i = c.loop-row.row-index in
    let row = c.row-item.result in
    let kind = c.row_kind.result in
    let next = ap (map (λ x. x.now))
    (next_item rows rows i row (λ j. rows) c.row-item.is c.loop-row-test.true) in
    kinds_refused (g.R.Rewriter.means c.args.rewriter.now).choice
    (row_kinds kept (map (λ x. x.now) rows))
    (row_kinds kept (map (λ x. x.now) (drop i rows)))
    (row_kinds kept (map (λ x. x.now) (drop (i + 1) rows)))
    kind c.loop-row.invariant
    (next_row kept (map (λ x. x.now) (drop i rows)) (map (λ x. x.now) (drop (i + 1) rows)) row.now
    kind next c.row_kind.ensures) (Unit {0})
    (Unit {0}) c.from_residual.result c.in_err-check_kind.field-0.0
    c.from_residual.ensures.1 c.in_err-check_kind.ensures
