use Rattle.std.proofs.Common.{map}
use Rattle.fresh_bridging.specs.ModelImage.{objective_items, row_item}
use Rattle.model_bridging.proofs.Others.{objective_refused, objective_within, others_done, rows_refused}
use Rattle.model_bridging.proofs.model_plan.plan_others.Goals as goal

pub returns-in_err-plan_rows-clause-answer : goal.returns-in_err-plan_rows-clause-answer
returns-in_err-plan_rows-clause-answer g c =
    rows_refused (g.R.Rewriter.means c.args.rewriter.now).choice c.args.standing.now _ _ _ _
    c.from_residual.result c.in_err-plan_rows.field-0.0 (map row_item c.args.rows.now.items)
    (objective_items c.args.objective.now) c.from_residual.ensures.1
    c.in_err-plan_rows.ensures.answer

pub plan_objective-requires : goal.plan_objective-requires
plan_objective-requires g c =
    objective_within (g.R.Rewriter.means c.args.rewriter.now) c.args.standing.now
    (map row_item c.args.rows.now.items) c.args.objective.now c.args.plan.now c.plan_rows.new.plan
    (g.R.Rewriter.means c.plan_rows.new.rewriter) c.plan_rows.new.standing
    c.plan_rows.ensures.means c.plan_rows.ensures.same
    c.in_ok-plan_rows.ensures.answer c.requires

pub returns-in-Ok-clause-answer : goal.returns-in-Ok-clause-answer
returns-in-Ok-clause-answer g c =
    others_done (g.R.Rewriter.means c.args.rewriter.now) c.args.standing.now
    (map row_item c.args.rows.now.items) c.args.objective.now c.args.plan.now c.plan_rows.new.plan
    (g.R.Rewriter.means c.plan_rows.new.rewriter) c.plan_rows.new.standing
    c.plan_rows.ensures.means c.plan_rows.ensures.same c.in_ok-plan_rows.ensures.answer
    c.plan_objective.new.plan c.in-Ok.ensures.answer

pub returns-in-Err-clause-answer : goal.returns-in-Err-clause-answer
returns-in-Err-clause-answer g c =
    objective_refused (g.R.Rewriter.means c.args.rewriter.now) c.args.standing.now
    (map row_item c.args.rows.now.items) c.args.objective.now c.args.plan.now c.plan_rows.new.plan
    (g.R.Rewriter.means c.plan_rows.new.rewriter) c.plan_rows.new.standing
    c.plan_rows.ensures.means c.plan_rows.ensures.same c.in_ok-plan_rows.ensures.answer
    _ _ _ _ c.in-Err.fault c.root.result c.refused.result c.refused.ensures c.root.ensures
    c.in-Err.ensures.answer
