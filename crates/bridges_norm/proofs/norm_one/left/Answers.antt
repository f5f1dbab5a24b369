use Rattle.std.proofs.Common.{◌+◌, drop, arith, sym, ap, subst, ◌∙◌}
use Rattle.std.proofs.Math.ListN.{drop_of_length-le}
use Rattle.ratio_core.specs.AnsweredLaws.{passed_on}
use Rattle.aff_core.specs.Arithmetic.{PlusFits}
use Rattle.aff_core.specs.Function.{negated}
use Rattle.bridge_face.specs.ComponentLaws.{variables}
use Rattle.bridge_face.specs.ImageOf.{DifferencesFit}
use Rattle.bridge_face.specs.Images.{difference}
use Rattle.bridges_norm.proofs.Loops.{LessAsAll, less_all, less_fits, less_more, less_none, next}
use Rattle.bridges_norm.proofs.norm_one.left.Goals as goal

pub loop-var-init : goal.loop-var-init
loop-var-init c = less_none c.args.first.now c.in_ok-left.left c.args.vars.now c.in_ok-left.ensures

pub loop-var-preserved : goal.loop-var-preserved
loop-var-preserved c =
    subst (λ f. LessAsAll c.args.first.now f (drop (c.loop-var.var-index + 1) c.args.vars.now)
    c.args.vars.now)
    (sym (c.in_ok-left-2.ensures.1 ∙ ap (difference c.loop-var.left) c.in_ok-variable.ensures))
    (less_more c.args.first.now c.loop-var.left c.var-item.result
    (drop (c.loop-var.var-index + 1) c.args.vars.now)
    (drop c.loop-var.var-index c.args.vars.now) c.args.vars.now
    (next c.args.vars.now c.loop-var.var-index c.var-item.result c.loop-var-test.true c.var-item.is)
    (subst (λ g. PlusFits c.loop-var.left (negated g)) c.in_ok-variable.ensures
    c.in_ok-left-2.ensures.0) c.loop-var.invariant)

pub returns-in_err-left-2 : goal.returns-in_err-left-2
returns-in_err-left-2 c =
    passed_on c.from_residual-in_err-left-2.result c.in_err-left-2.field-0.0
    (PlusFits c.loop-var.left (negated c.in_ok-variable.field-0))
    (DifferencesFit c.args.first.now (variables c.args.vars.now)) _ _
    c.from_residual-in_err-left-2.ensures.1 c.in_err-left-2.ensures
    (λ all. subst (λ g. PlusFits c.loop-var.left (negated g)) (sym c.in_ok-variable.ensures)
    (less_fits c.args.first.now c.loop-var.left c.var-item.result
    (drop (c.loop-var.var-index + 1) c.args.vars.now)
    (drop c.loop-var.var-index c.args.vars.now) c.args.vars.now
    (next c.args.vars.now c.loop-var.var-index c.var-item.result c.loop-var-test.true c.var-item.is)
    c.loop-var.invariant all))

pub returns : goal.returns
returns c =
    less_all c.args.first.now c.loop-var.left (drop c.loop-var.var-index c.args.vars.now)
    c.args.vars.now (drop_of_length-le c.args.vars.now (omega arith)) c.loop-var.invariant
