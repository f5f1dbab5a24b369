use Rattle.std.proofs.Common.{◌∙◌, ap, ◌≡◌}
use Rattle.std.proofs.lemmas.Result.{IfOk-weaker}
use Rattle.aff_core.specs.Function.{variable, with_coefficient}
use Rattle.bridge_face.specs.Images.{difference}
use Rattle.ratio_core.specs.Rational.{neg_ℚ}
use Rattle.bridge_face.specs.DifferenceLaws.{difference-variable}
use Rattle.bridge_face.proofs.differences.less_variable.Goals as goal

pub returns : goal.returns
returns c =
    IfOk-weaker c.with_coef.result (λ f. f ≡ with_coefficient c.args.func.now c.args.var.now
    c.neg.result) (λ f. f ≡ difference c.args.func.now (variable c.args.var.now))
    (λ f e. e ∙ ap (with_coefficient c.args.func.now c.args.var.now) (c.neg.ensures
    ∙ ap neg_ℚ c.one.ensures) ∙ difference-variable c.args.func.now c.args.var.now c.requires)
    c.with_coef.ensures.same
