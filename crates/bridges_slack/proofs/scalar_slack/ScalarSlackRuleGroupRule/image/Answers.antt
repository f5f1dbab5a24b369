use Rattle.std.proofs.Common.{ap, ◌∙◌, ◌≡◌}
use Rattle.std.proofs.lemmas.Result.{IfOk-weaker}
use Rattle.ratio_core.specs.Rational.{zero_ℚ}
use Rattle.aff_core.specs.Address.{child_of}
use Rattle.aff_core.specs.Function.{coefficient, variable}
use Rattle.item_core.specs.Item.{set_of}
use Rattle.item_core.specs.declared.item.Body.TheVariants.{Affine}
use Rattle.set_core.specs.declared.set.Set.TheVariants.{EqualTo}
use Rattle.bridge_face.specs.GroupAndRowLaws.{group_and_row, group_and_row_made}
use Rattle.bridge_face.specs.ImageOf.{inner, scalar_slack}
use Rattle.bridge_face.specs.Images.{difference, function_of_body}
use Rattle.bridges_slack.specs.ScalarSlackLaws.{absent, image_made}
use Rattle.bridges_slack.proofs.scalar_slack.ScalarSlackRuleGroupRule.image.Goals as goal

pub rest-requires-clause-bounded : goal.rest-requires-clause-bounded
rest-requires-clause-bounded c = c.requires.suits.bounded

pub rest-requires-clause-absent : goal.rest-requires-clause-absent
rest-requires-clause-absent c =
    ap (coefficient (function_of_body c.args.item.now.body)) (c.child.ensures
    ∙ ap (λ at. child_of at 0) c.child-group.ensures)
    ∙ absent c.args.item.now c.requires.valid c.requires.suits.bounded

pub returns : goal.returns
returns c =
    IfOk-weaker c.group_row_image.result (λ image. image ≡ group_and_row c.args.item.now
    c.child_group-group.result c.new.result c.in_ok-row.row)
    (λ image. image ≡ scalar_slack c.args.item.now)
    (λ image e. group_and_row_made c.args.item.now c.in_ok-set.set (set_of c.args.item.now.body)
    c.in_ok-vars.vars (inner c.args.item.now 1) c.child_group-group.result c.new.result _
    c.in_ok-row.row _ image
    c.in_ok-set.ensures c.in_ok-vars.ensures c.new.ensures
    (c.in_ok-row.ensures ∙ ap (λ v. Affine (difference (function_of_body c.args.item.now.body)
    (variable v)) (EqualTo zero_ℚ)) (c.child.ensures
    ∙ ap (λ at. child_of at 0) c.child-group.ensures))
    c.child_group-group.ensures e
    ∙ image_made c.args.item.now c.requires.suits.bounded)
    c.group_row_image.ensures
