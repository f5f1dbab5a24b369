use Rattle.std.proofs.Common.{ap, ◌∙◌, ◌∷◌, ◌≡◌, []}
use Rattle.std.proofs.lemmas.Result.{IfOk-weaker}
use Rattle.aff_core.specs.Address.{child_of}
use Rattle.aff_core.specs.Function.{variable}
use Rattle.item_core.specs.declared.image.Expression.TheVariants.{Bridged}
use Rattle.bridge_face.specs.ImageOf.{vectorize_var}
use Rattle.bridge_face.specs.Images.{group_by, raised}
use Rattle.bridges_shape.specs.VectorizeVarLaws.{image_made}
use Rattle.bridges_shape.proofs.vectorize_var.VectorizeVarRuleGroupRule.image.Goals as goal

pub group_set-set-requires : goal.group_set-set-requires
group_set-set-requires c = c.requires.suits.group

pub returns : goal.returns
returns c =
    IfOk-weaker c.group_image.result (λ image. image ≡ group_by (c.child_group.result ∷ [])
    c.in_ok-exprs.exprs) (λ image. image ≡ vectorize_var c.args.group.now)
    (λ image e. e ∙ image_made c.args.group.now c.group_set-set.result.now c.cone.result
    c.number.result c.in_ok-vars.vars c.in_ok-exprs.exprs c.child_group.result
    c.group_set-set.ensures.set c.cone.ensures c.number.ensures c.in_ok-vars.ensures
    (c.in_ok-exprs.ensures ∙ ap (λ at. Bridged (raised (variable at) c.number.result) ∷ [])
    (c.child-2.ensures ∙ ap (λ at. child_of at 0) c.child.ensures))
    c.child_group.ensures)
    c.group_image.ensures
