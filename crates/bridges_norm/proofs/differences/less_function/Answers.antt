use Rattle.std.proofs.Common.{◌≡◌, ap, subst, sym, ◌∙◌}
use Rattle.ratio_core.specs.AnsweredLaws.{exact_as}
use Rattle.aff_core.specs.Arithmetic.{IsSum, PlusFits, sum_of}
use Rattle.aff_core.specs.Function.{negated}
use Rattle.bridge_face.specs.Images.{difference}
use Rattle.bridges_norm.proofs.differences.less_function.Goals as goal

pub returns : goal.returns
returns c =
    exact_as c.add-2.result (PlusFits c.args.func.now c.in_ok-neg.field-0)
    (PlusFits c.args.func.now (negated c.args.other.now))
    (IsSum c.args.func.now c.in_ok-neg.field-0) (λ less. less ≡ difference c.args.func.now
    c.args.other.now)
    (subst (PlusFits c.args.func.now) c.in_ok-neg.ensures.same) (subst (PlusFits c.args.func.now)
    (sym c.in_ok-neg.ensures.same))
    (λ less s. s.same ∙ ap (sum_of c.args.func.now) c.in_ok-neg.ensures.same) c.add-2.ensures
