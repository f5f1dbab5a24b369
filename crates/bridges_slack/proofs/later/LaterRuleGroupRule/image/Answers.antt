use Rattle.std.proofs.Common.{ap, map, ◌∙◌, ◌≡◌}
use Rattle.std.proofs.lemmas.Result.{IfOk-weaker}
use Rattle.item_core.specs.Item.{item_of}
use Rattle.item_core.specs.declared.image.Expression.TheVariants.{Kept}
use Rattle.set_core.specs.Shapes.{is_scalar}
use Rattle.bridge_face.specs.GroupAndRowLaws.{group_and_row}
use Rattle.bridge_face.specs.ImageOf.{later}
use Rattle.bridges_slack.specs.LaterLaws.{parts_made, second_child}
use Rattle.bridges_slack.proofs.later.LaterRuleGroupRule.image.Goals as goal

pub returns : goal.returns
returns c =
    IfOk-weaker c.group_row_image.result (λ image. image ≡ group_and_row c.args.item.now
    (item_of c.child-at.result c.group_body.result) c.in_ok-exprs.exprs c.in_ok-row.row)
    (λ image. image ≡ later c.args.edge c.args.item.now)
    (λ image e. e ∙ parts_made c.args.edge c.args.item.now c.requires.valid c.child-at.result
    c.child.result c.begins_free-free.result c.component_count-count.result c.in_ok-vars.vars
    c.in_ok-exprs.exprs c.in_ok-set.set c.group_body.result c.in_ok-row.row
    c.child-at.ensures c.child.ensures c.begins_free-free.ensures c.component_count-count.ensures
    c.in_ok-vars.ensures
    (c.in_ok-exprs.ensures ∙ ap (map Kept) c.as_slice.ensures) c.in_ok-set.ensures
    c.group_body.ensures
    (c.in_ok-row.ensures ∙ ap (λ vs. second_child c.begins_free-free.result
    (is_scalar c.in_ok-set.set) c.child.result vs c.in_ok-set.set) c.as_slice-2.ensures))
    c.group_row_image.ensures
