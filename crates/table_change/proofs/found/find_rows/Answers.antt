use Rattle.std.specs.Prelude.{map}
use Rattle.std.proofs.Common.{ap, ◌∙◌}
use Rattle.found_plan.specs.Read.{is_marked}
use Rattle.fresh_bridging.specs.ModelImage.{row_item}
use Rattle.table_change.specs.Given.{is_given, passes}
use Rattle.table_change.proofs.FoundSteps.{finding_more}
use Rattle.table_change.proofs.found.find_rows.Goals as goal
use Rattle.user_model.specs.declared.row.Row.{Row}

pub loop-row-preserved : goal.loop-row-preserved
loop-row-preserved c =
    let l = c.loop-row in
    finding_more (λ (x : Row). is_given (passes c.args.changed.now) (is_marked c.args.map.now)
    (row_item x)) c.args.rows.now.items l.row-iterator c.next.new.self c.in-Some.row.now
    c.passes.result (map (λ x. x.now) l.list.items) (map (λ x. x.now) c.push_where.new.list.items)
    l.invariant c.in-Some.ensures.steps
    (c.passes.ensures ∙ ap (passes c.args.changed.now) c.row_kind.ensures)
    c.in_ok-push_where.ensures
