use Rattle.std.proofs.Common.{ap, map, refl, ◌+◌, ◌∙◌, ◌∷◌, ◌≡◌, []}
use Rattle.std.proofs.lemmas.Result.{IfOk-weaker}
use Rattle.std.specs.List.{range_with_len}
use Rattle.bridge_face.specs.ImageOf.{free_var}
use Rattle.bridge_face.specs.Images.{group_by}
use Rattle.bridges_split.specs.FreeVarLaws.{halved, image_made}
use Rattle.bridges_split.proofs.free_var.FreeVarRuleGroupRule.image.Goals as goal

pub returns : goal.returns
returns c =
    IfOk-weaker c.group_image.result (λ image. image ≡ group_by (c.child_group.result ∷ [])
    c.in_ok-exprs.exprs) (λ image. image ≡ free_var c.args.group.now)
    (λ image e. e ∙ image_made c.args.group.now c.component_count-count.result
    (c.component_count-count.result + c.component_count-count.result) c.in_ok-vars.vars
    c.in_ok-exprs.exprs c.child_group.result
    c.component_count-count.ensures refl c.in_ok-vars.ensures
    (c.in_ok-exprs.ensures ∙ ap (λ at. map (halved at c.component_count-count.result)
    (range_with_len 0 c.component_count-count.result)) c.child.ensures) c.child_group.ensures)
    c.group_image.ensures
