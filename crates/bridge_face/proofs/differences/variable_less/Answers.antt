use Rattle.std.proofs.Common.{◌∙◌, ap₂, ◌≡◌}
use Rattle.std.proofs.lemmas.Result.{IfOk-weaker}
use Rattle.aff_core.specs.Function.{variable, with_coefficient}
use Rattle.bridge_face.specs.Images.{difference}
use Rattle.bridge_face.specs.DifferenceLaws.{variable-difference}
use Rattle.bridge_face.proofs.differences.variable_less.Goals as goal

pub returns : goal.returns
returns c =
    IfOk-weaker c.with_coef-2.result (λ f. f ≡ with_coefficient c.in_ok-neg.field-0 c.args.var.now
    c.one.result) (λ f. f ≡ difference (variable c.args.var.now) c.args.func.now)
    (λ f e. e ∙ ap₂ (λ g q. with_coefficient g c.args.var.now q) c.in_ok-neg.ensures.same
    c.one.ensures ∙ variable-difference c.args.var.now c.args.func.now c.requires)
    c.with_coef-2.ensures.same
