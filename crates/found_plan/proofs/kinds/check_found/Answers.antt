use Rattle.std.proofs.Common.{map, subst}
use Rattle.std.specs.Option.{option_copied}
use Rattle.fresh_bridging.specs.ModelImage.{group_item}
use Rattle.model_bridging.specs.Kinds.{first_missing}
use Rattle.model_bridging.specs.PlanOutcome.{KindsOutcome}
use Rattle.found_plan.proofs.MarkSteps.{same_kinds}
use Rattle.found_plan.proofs.kinds.check_found.Goals as goal

pub returns : goal.returns
returns g c =
    let choice = (g.R.Rewriter.means c.args.rewriter.now).choice in
    subst (λ ks. KindsOutcome c.check_found_others.result (first_missing choice ks))
    (same_kinds choice c.args.map.now
    (map group_item (map (λ x. x.now) c.args.groups.now)) (map (λ r. r.now) c.args.rows.now)
    (option_copied c.args.objective) c.new-kept.result c.tell_found.new.kept
    c.tell_groups.new.kept c.in_ok-tell_found.ensures c.in_ok-tell_groups.ensures)
    c.check_found_others.ensures
