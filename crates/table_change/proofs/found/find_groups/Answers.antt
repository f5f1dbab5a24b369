use Rattle.std.specs.Prelude.{map}
use Rattle.std.proofs.Common.{ap, ◌∙◌}
use Rattle.found_plan.specs.Read.{is_marked}
use Rattle.fresh_bridging.specs.ModelImage.{group_item}
use Rattle.table_change.specs.Given.{is_given, passes}
use Rattle.table_change.proofs.FoundSteps.{finding_more}
use Rattle.table_change.proofs.found.find_groups.Goals as goal
use Rattle.user_model.specs.declared.group.Group.{Group}

pub loop-group-preserved : goal.loop-group-preserved
loop-group-preserved c =
    let l = c.loop-group in
    finding_more (λ (x : Group). is_given (passes c.args.changed.now) (is_marked c.args.map.now)
    (group_item x)) c.args.groups.now.items l.group-iterator c.next.new.self c.in-Some.group.now
    c.passes.result (map (λ x. x.now) l.list.items) (map (λ x. x.now) c.push_where.new.list.items)
    l.invariant c.in-Some.ensures.steps
    (c.passes.ensures ∙ ap (passes c.args.changed.now) c.group_kind.ensures)
    c.in_ok-push_where.ensures
