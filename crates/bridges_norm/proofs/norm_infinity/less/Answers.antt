use Rattle.std.proofs.Common.{◌++◌, ◌∷◌, ◌+◌, [], All, arith, sym, ap, subst, ◌∙◌}
use Rattle.ratio_core.specs.AnsweredLaws.{passed_on}
use Rattle.aff_core.specs.Arithmetic.{PlusFits}
use Rattle.aff_core.specs.Function.{negated}
use Rattle.bridge_face.specs.Images.{difference}
use Rattle.bridges_norm.proofs.Loops.{MadeBehind, fits_there, made_all, made_more, made_none}
use Rattle.bridges_norm.proofs.norm_infinity.less.Goals as goal

pub loop-other-init : goal.loop-other-init
loop-other-init c =
    made_none [] (difference c.args.first.now) (λ x. PlusFits c.args.first.now (negated x))
    c.args.others.now c.in_ok-less.less.items c.in_ok-less.ensures.items

pub loop-other-preserved : goal.loop-other-preserved
loop-other-preserved c =
    subst (MadeBehind [] (difference c.args.first.now) (λ x. PlusFits c.args.first.now (negated x))
    (c.loop-other.other-index + 1) c.args.others.now)
    (sym (c.in_ok-push.ensures.items ∙ ap (λ f. c.loop-other.less.items ++ f ∷ [])
    c.in_ok-less_function.ensures.1))
    (made_more [] (difference c.args.first.now) (λ x. PlusFits c.args.first.now (negated x))
    c.loop-other.other-index c.args.others.now c.other-item.result c.loop-other.less.items
    c.loop-other-test.true (sym c.other-item.is)
    c.in_ok-less_function.ensures.0 c.loop-other.invariant)

pub returns-in_err-less_function : goal.returns-in_err-less_function
returns-in_err-less_function c =
    passed_on c.from_residual-in_err-less_function.result c.in_err-less_function.field-0.0
    (PlusFits c.args.first.now (negated c.other-item.result))
    (All (λ x. PlusFits c.args.first.now (negated x)) c.args.others.now) _ _
    c.from_residual-in_err-less_function.ensures.1 c.in_err-less_function.ensures
    (fits_there [] (difference c.args.first.now) (λ x. PlusFits c.args.first.now (negated x))
    c.loop-other.other-index c.args.others.now c.other-item.result c.loop-other-test.true
    (sym c.other-item.is))

pub returns : goal.returns
returns c =
    made_all [] (difference c.args.first.now) (λ x. PlusFits c.args.first.now (negated x))
    c.loop-other.other-index c.args.others.now c.loop-other.less.items (omega arith)
    c.loop-other.invariant
