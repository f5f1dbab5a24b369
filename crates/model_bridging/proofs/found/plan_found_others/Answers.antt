use Rattle.std.proofs.Common.{[], Err, Ok, ap, map, subst}
use Rattle.std.specs.Prelude.{All, Some}
use Rattle.std.specs.Option.{option_copied, option_map_or}
use Rattle.item_core.specs.Kind.{kind_count}
use Rattle.bridge_plan.specs.Worked.{IsItemWithinLevels}
use Rattle.fresh_bridging.specs.Entries.{put_in}
use Rattle.fresh_bridging.specs.ModelImage.{objective_items, row_item}
use Rattle.model_bridging.specs.Found.{found_others}
use Rattle.model_bridging.proofs.FoundSteps.{as_copied}
use Rattle.model_bridging.proofs.Others.{objective_refused, objective_within, others_done, rows_refused}
use Rattle.model_bridging.proofs.found.plan_found_others.Goals as goal

pub returns-in_err-plan_found_rows-clause-answer :
    goal.returns-in_err-plan_found_rows-clause-answer
returns-in_err-plan_found_rows-clause-answer g c =
    rows_refused (g.R.Rewriter.means c.args.rewriter.now).choice c.args.standing.now _ _ _ _
    c.from_residual.result c.in_err-plan_found_rows.field-0.0
    (map row_item (map (λ r. r.now) c.args.rows.now))
    (option_map_or objective_items (option_copied c.args.objective) []) c.from_residual.ensures.1
    c.in_err-plan_found_rows.ensures.answer

pub plan_objective-requires : goal.plan_objective-requires
plan_objective-requires g c =
    let rows = map (λ r. r.now) c.args.rows.now in
    objective_within (g.R.Rewriter.means c.args.rewriter.now) c.args.standing.now
    (map row_item rows) c.in-Some.objective.now c.args.plan.now c.plan_found_rows.new.plan
    (g.R.Rewriter.means c.plan_found_rows.new.rewriter) c.plan_found_rows.new.standing
    c.plan_found_rows.ensures.means c.plan_found_rows.ensures.same
    c.in_ok-plan_found_rows.ensures.answer
    (subst (λ o. All (λ item. IsItemWithinLevels (g.R.Rewriter.means c.args.rewriter.now).choice kind_count
    (put_in c.args.standing.now item)) (found_others rows o)) (ap option_copied c.in-Some.is)
    c.requires)

pub returns-in-Ok-clause-answer : goal.returns-in-Ok-clause-answer
returns-in-Ok-clause-answer g c =
    let rows = map (λ r. r.now) c.args.rows.now in
    as_copied {T = Unit {0}} (Ok tt) (g.R.Rewriter.means c.args.rewriter.now).choice
    c.args.standing.now c.args.plan.now c.plan_objective.new.plan rows
    (Some c.in-Some.objective.now) (option_copied c.args.objective)
    (ap option_copied c.in-Some.is)
    (others_done (g.R.Rewriter.means c.args.rewriter.now) c.args.standing.now
    (map row_item rows) c.in-Some.objective.now c.args.plan.now c.plan_found_rows.new.plan
    (g.R.Rewriter.means c.plan_found_rows.new.rewriter) c.plan_found_rows.new.standing
    c.plan_found_rows.ensures.means c.plan_found_rows.ensures.same
    c.in_ok-plan_found_rows.ensures.answer c.plan_objective.new.plan c.in-Ok.ensures.answer)

pub returns-in-Err-clause-answer : goal.returns-in-Err-clause-answer
returns-in-Err-clause-answer g c =
    let rows = map (λ r. r.now) c.args.rows.now in
    as_copied {T = Unit {0}} (Err c.refused.result)
    (g.R.Rewriter.means c.args.rewriter.now).choice
    c.args.standing.now c.args.plan.now c.plan_objective.new.plan rows
    (Some c.in-Some.objective.now) (option_copied c.args.objective)
    (ap option_copied c.in-Some.is)
    (objective_refused (g.R.Rewriter.means c.args.rewriter.now) c.args.standing.now
    (map row_item rows) c.in-Some.objective.now c.args.plan.now c.plan_found_rows.new.plan
    (g.R.Rewriter.means c.plan_found_rows.new.rewriter) c.plan_found_rows.new.standing
    c.plan_found_rows.ensures.means c.plan_found_rows.ensures.same
    c.in_ok-plan_found_rows.ensures.answer
    _ _ _ _ c.in-Err.fault c.root.result c.refused.result c.refused.ensures c.root.ensures
    c.in-Err.ensures.answer)
