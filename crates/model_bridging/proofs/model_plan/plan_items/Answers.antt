use Rattle.std.proofs.Common.{◌++◌, map}
use Rattle.fresh_bridging.specs.ModelImage.{objective_items, row_item}
use Rattle.model_bridging.proofs.Others.{others_ready, whole_done, whole_refused}
use Rattle.model_bridging.proofs.model_plan.plan_items.Goals as goal

pub plan_others-requires : goal.plan_others-requires
plan_others-requires g c =
    others_ready (g.R.Rewriter.means c.args.rewriter.now) c.args.groups.now.items
    (map row_item c.args.rows.now.items ++ objective_items c.args.objective.now) c.new-plan.result
    c.plan_groups.new.plan c.in_ok-entries.entries.items c.in_ok-standing.standing
    (g.R.Rewriter.means c.plan_groups.new.rewriter) c.plan_groups.ensures.means
    c.in_ok-entries.ensures.answer c.in_ok-standing.ensures c.requires

pub returns-in_err-plan_others-clause-answer : goal.returns-in_err-plan_others-clause-answer
returns-in_err-plan_others-clause-answer g c =
    whole_refused (g.R.Rewriter.means c.args.rewriter.now) c.args.groups.now.items
    (map row_item c.args.rows.now.items ++ objective_items c.args.objective.now) c.new-plan.result
    c.plan_groups.new.plan c.in_ok-entries.entries.items c.in_ok-standing.standing
    (g.R.Rewriter.means c.plan_groups.new.rewriter) c.plan_groups.ensures.means
    c.in_ok-entries.ensures.answer c.in_ok-standing.ensures
    _ _ _ _ c.from_residual-in_err-plan_others.result c.in_err-plan_others.field-0.0
    c.from_residual-in_err-plan_others.ensures.1 c.in_err-plan_others.ensures.answer

pub returns-clause-answer : goal.returns-clause-answer
returns-clause-answer g c =
    whole_done (g.R.Rewriter.means c.args.rewriter.now) c.args.groups.now.items
    (map row_item c.args.rows.now.items ++ objective_items c.args.objective.now) c.new-plan.result
    c.plan_groups.new.plan c.in_ok-entries.entries.items c.in_ok-standing.standing
    (g.R.Rewriter.means c.plan_groups.new.rewriter) c.plan_groups.ensures.means
    c.in_ok-entries.ensures.answer c.in_ok-standing.ensures
    (record {
      plan = c.plan_others.new.plan;
      exprs = c.in_ok-exprs.exprs;
      kept = c.in_ok-kept.kept;
    }) c.new-plan.ensures.leaves c.new-plan.ensures.nodes c.in_ok-plan_others.ensures.answer
    c.in_ok-exprs.ensures c.in_ok-kept.ensures
