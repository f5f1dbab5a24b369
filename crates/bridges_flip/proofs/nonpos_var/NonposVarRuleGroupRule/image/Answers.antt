use Rattle.std.proofs.Common.{ap, map, ◌∙◌, ◌∷◌, ◌≡◌, []}
use Rattle.std.proofs.lemmas.Result.{IfOk-weaker}
use Rattle.bridge_face.specs.ImageOf.{nonpos_var}
use Rattle.bridge_face.specs.Images.{group_by}
use Rattle.bridges_flip.specs.NonposVarLaws.{image_made, negative}
use Rattle.bridges_flip.proofs.nonpos_var.NonposVarRuleGroupRule.image.Goals as goal

pub returns : goal.returns
returns c =
    IfOk-weaker c.group_image.result (λ image. image ≡ group_by (c.child_group.result ∷ [])
    c.in_ok-exprs.exprs) (λ image. image ≡ nonpos_var c.args.group.now)
    (λ image e. e ∙ image_made c.args.group.now c.component_count-count.result c.in_ok-vars.vars
    c.in_ok-exprs.exprs c.child_group.result
    c.component_count-count.ensures c.in_ok-vars.ensures (c.in_ok-exprs.ensures
    ∙ ap (map negative) c.as_slice.ensures) c.child_group.ensures)
    c.group_image.ensures
