use Rattle.std.proofs.Common.{◌+◌, ap, arith, drop, map}
use Rattle.std.proofs.lemmas.List.{drop_all}
use Rattle.map_laws.specs.LoopLaws.{next_item}
use Rattle.fresh_bridging.specs.ModelImage.{row_item}
use Rattle.model_bridging.proofs.InOrder.{row_more, row_within, rows_end, rows_start}
use Rattle.model_bridging.proofs.found.plan_found_rows.Goals as goal

pub loop-row-init : goal.loop-row-init
loop-row-init g c = record {
  planned = rows_start (g.R.Rewriter.means c.args.rewriter.now) c.args.standing.now
      (map row_item (map (λ x. x.now) c.args.rows.now)) c.args.plan.now c.requires;
  turns = omega arith;
}

pub plan_row-requires : goal.plan_row-requires
plan_row-requires g c =
    let rows = c.args.rows.now in
    let at = c.loop-row in
    let i = at.row-index in
    let row = c.row-item.result in
    let next = ap (λ xs. map row_item (map (λ x. x.now) xs))
    (next_item rows rows i row (λ j. rows) c.row-item.is c.loop-row-test.true) in
    row_within (g.R.Rewriter.means c.args.rewriter.now) c.args.standing.now
    (map row_item (map (λ x. x.now) rows)) (map row_item (map (λ x. x.now) (drop i rows)))
    (map row_item (map (λ x. x.now) (drop (i + 1) rows))) (row_item row.now) c.args.plan.now
    at.plan (g.R.Rewriter.means at.rewriter) at.standing at.invariant.planned next

pub loop-row-preserved : goal.loop-row-preserved
loop-row-preserved g c =
    let rows = c.args.rows.now in
    let at = c.loop-row in
    let i = at.row-index in
    let row = c.row-item.result in
    let next = ap (λ xs. map row_item (map (λ x. x.now) xs))
    (next_item rows rows i row (λ j. rows) c.row-item.is c.loop-row-test.true) in
    record {
      planned = row_more (g.R.Rewriter.means c.args.rewriter.now) c.args.standing.now
          (map row_item (map (λ x. x.now) rows)) (map row_item (map (λ x. x.now) (drop i rows)))
          (map row_item (map (λ x. x.now) (drop (i + 1) rows))) (row_item row.now) c.args.plan.now
          at.plan (g.R.Rewriter.means at.rewriter) at.standing at.invariant.planned next
          c.plan_row.new.plan (g.R.Rewriter.means c.plan_row.new.rewriter) c.plan_row.new.standing
          c.in-Ok.ensures.answer.0 c.in-Ok.ensures.answer.1 c.plan_row.ensures.means
          c.plan_row.ensures.same;
      turns = omega (arith, at.invariant.turns, c.in-Ok.ensures.turns);
    }

pub returns-clause-answer : goal.returns-clause-answer
returns-clause-answer g c =
    let rows = c.args.rows.now in
    let at = c.loop-row in
    rows_end (g.R.Rewriter.means c.args.rewriter.now) c.args.standing.now
    (map row_item (map (λ x. x.now) rows))
    (map row_item (map (λ x. x.now) (drop at.row-index rows))) c.args.plan.now at.plan
    (g.R.Rewriter.means at.rewriter) at.standing at.invariant.planned
    (ap (λ xs. map row_item (map (λ x. x.now) xs)) (drop_all at.row-index rows (omega arith)))
