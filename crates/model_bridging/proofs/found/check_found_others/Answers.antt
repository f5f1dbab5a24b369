use Rattle.std.proofs.Common.{[], ap, map, subst, sym}
use Rattle.std.specs.Option.{option_copied, option_map_or}
use Rattle.fresh_bridging.specs.ModelImage.{objective_items}
use Rattle.model_bridging.specs.Kinds.{first_missing, kind_by, told}
use Rattle.model_bridging.specs.PlanOutcome.{KindsOutcome}
use Rattle.model_bridging.proofs.FoundSteps.{others_answer, rows_refuse}
use Rattle.model_bridging.proofs.found.check_found_others.Goals as goal

pub returns-in_err-check_found_rows : goal.returns-in_err-check_found_rows
returns-in_err-check_found_rows g c =
    rows_refuse (g.R.Rewriter.means c.args.rewriter.now).choice (told c.args.kept.now)
    (map (λ r. r.now) c.args.rows.now) (option_copied c.args.objective) (Unit {0}) (Unit {0})
    c.from_residual.result c.in_err-check_found_rows.field-0.0 c.from_residual.ensures.1
    c.in_err-check_found_rows.ensures

pub returns-in-Some : goal.returns-in-Some
returns-in-Some g c =
    let choice = (g.R.Rewriter.means c.args.rewriter.now).choice in
    let kept = told c.args.kept.now in
    let r = c.check_objective.result in
    others_answer choice kept (map (λ r. r.now) c.args.rows.now) (option_copied c.args.objective) r
    c.in_ok-check_found_rows.ensures
    (subst (λ o. KindsOutcome r (first_missing choice (map (λ i. kind_by kept i.body)
    (option_map_or objective_items o [])))) (sym (ap option_copied c.in-Some.is))
    c.check_objective.ensures)
