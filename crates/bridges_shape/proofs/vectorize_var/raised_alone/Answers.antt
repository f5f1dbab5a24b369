use Rattle.std.proofs.Common.{◌++◌, ◌∷◌, [], ap, ap₂, ◌∙◌}
use Rattle.aff_core.specs.Function.{Function}
use Rattle.item_core.specs.declared.image.Expression.TheVariants.{Bridged}
use Rattle.bridges_shape.specs.VectorizeVarLaws.{raised-variable}
use Rattle.bridges_shape.proofs.vectorize_var.raised_alone.Goals as goal

pub returns : goal.returns
returns c =
    c.from_vec.ensures ∙ c.in_ok-push.ensures.items
    ∙ ap₂ (λ xs f. xs ++ Bridged f ∷ []) c.in_ok-exprs.ensures.items
    (c.in_ok-func.ensures ∙ ap (λ (g : Function). record g {
      constant = c.args.constant;
    }) c.in_ok-variable.ensures ∙ raised-variable c.args.var.now c.args.constant)
