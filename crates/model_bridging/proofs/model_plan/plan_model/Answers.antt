use Rattle.model_bridging.proofs.ModelSteps.{model_answered, ready, refused_by_kinds}
use Rattle.model_bridging.proofs.model_plan.plan_model.Goals as goal

pub returns-in_err-check_kinds-clause-answer : goal.returns-in_err-check_kinds-clause-answer
returns-in_err-check_kinds-clause-answer g c =
    refused_by_kinds (g.R.Rewriter.means c.args.rewriter.now) c.requires c.args.model.now.model
    c.groups-groups.ensures.valid c.groups-groups.result.now.items c.rows-rows.result.now.items
    c.objective-objective.result.now c.groups-groups.ensures.value c.rows-rows.ensures.value
    c.objective-objective.ensures.value
    (Unit {0}) c.from_residual.result c.in_err-check_kinds.field-0.0 c.from_residual.ensures.1
    c.in_err-check_kinds.ensures

pub plan_items-requires : goal.plan_items-requires
plan_items-requires g c =
    ready (g.R.Rewriter.means c.args.rewriter.now) c.requires c.args.model.now.model
    c.groups-groups.ensures.valid c.groups-groups.result.now.items c.rows-rows.result.now.items
    c.objective-objective.result.now c.groups-groups.ensures.value c.rows-rows.ensures.value
    c.objective-objective.ensures.value c.in_ok-check_kinds.ensures

pub returns-clause-answer : goal.returns-clause-answer
returns-clause-answer g c =
    model_answered (g.R.Rewriter.means c.args.rewriter.now) c.requires c.args.model.now.model
    c.groups-groups.ensures.valid c.groups-groups.result.now.items c.rows-rows.result.now.items
    c.objective-objective.result.now c.groups-groups.ensures.value c.rows-rows.ensures.value
    c.objective-objective.ensures.value c.plan_items.result c.in_ok-check_kinds.ensures
    c.plan_items.ensures.answer
