use Rattle.std.proofs.Common.{◌++◌, ◌∷◌, ◌+◌, [], arith, sym, ap, subst, ◌∙◌, refl}
use Rattle.std.specs.List.{zip}
use Rattle.ratio_core.specs.AnsweredLaws.{passed_on}
use Rattle.aff_core.specs.Arithmetic.{PlusFits, sum_of}
use Rattle.bridge_face.specs.ComponentLaws.{variables}
use Rattle.bridge_face.specs.ImageOf.{EachSumFits}
use Rattle.bridge_face.specs.ZippedLaws.{at_place, length-paired, within}
use Rattle.bridges_norm.proofs.Loops.{MoreFits, MadeBehind, fits_there, fit_more, made_all, made_more, made_none, more_pair, more_fit, more_pairs}
use Rattle.bridges_norm.proofs.norm_one.more.Goals as goal

pub loop-n-init : goal.loop-n-init
loop-n-init c =
    made_none c.args.less.items more_pair MoreFits (zip c.args.vars.now c.args.others.now)
    c.args.less.items (refl)

pub loop-n-preserved : goal.loop-n-preserved
loop-n-preserved c =
    subst (MadeBehind c.args.less.items more_pair MoreFits (c.loop-n.n + 1)
    (zip c.args.vars.now c.args.others.now))
    (sym (c.in_ok-push.ensures.items ∙ ap (λ f. c.loop-n.both.items ++ f ∷ [])
    (c.in_ok-add.ensures.1.same ∙ ap (λ g. sum_of g c.index-others-n.result)
    c.in_ok-variable.ensures)))
    (made_more c.args.less.items more_pair MoreFits c.loop-n.n
    (zip c.args.vars.now c.args.others.now) (c.index-vars-n.result, c.index-others-n.result)
    c.loop-n.both.items
    (within c.loop-n.n c.args.vars.now c.args.others.now c.requires c.index-vars-n.result
    c.index-others-n.result c.loop-n-test.true c.index-vars-n.is c.index-others-n.is)
    (at_place c.loop-n.n c.args.vars.now c.args.others.now c.requires c.index-vars-n.result
    c.index-others-n.result c.loop-n-test.true c.index-vars-n.is c.index-others-n.is)
    (subst (λ g. PlusFits g c.index-others-n.result) c.in_ok-variable.ensures c.in_ok-add.ensures.0)
    c.loop-n.invariant)

pub returns-in_err-add : goal.returns-in_err-add
returns-in_err-add c =
    passed_on c.from_residual-in_err-add.result c.in_err-add.field-0.0
    (PlusFits c.in_ok-variable.field-0 c.index-others-n.result)
    (EachSumFits (variables c.args.vars.now) c.args.others.now) _ _
    c.from_residual-in_err-add.ensures.1 c.in_err-add.ensures
    (λ all. subst (λ g. PlusFits g c.index-others-n.result) (sym c.in_ok-variable.ensures)
    (fits_there c.args.less.items more_pair MoreFits c.loop-n.n
    (zip c.args.vars.now c.args.others.now) (c.index-vars-n.result, c.index-others-n.result)
    (within c.loop-n.n c.args.vars.now c.args.others.now c.requires c.index-vars-n.result
    c.index-others-n.result c.loop-n-test.true c.index-vars-n.is c.index-others-n.is)
    (at_place c.loop-n.n c.args.vars.now c.args.others.now c.requires c.index-vars-n.result
    c.index-others-n.result c.loop-n-test.true c.index-vars-n.is c.index-others-n.is)
    (fit_more c.args.vars.now c.args.others.now all)))

pub returns : goal.returns
returns c =
    let long = length-paired c.args.vars.now c.args.others.now c.requires in
    let done = made_all c.args.less.items more_pair MoreFits c.loop-n.n
    (zip c.args.vars.now c.args.others.now) c.loop-n.both.items (omega (arith, long))
    c.loop-n.invariant in (
      more_fit c.args.vars.now c.args.others.now done.0,
      done.1 ∙ ap (λ fs. c.args.less.items ++ fs)
          (more_pairs c.args.vars.now c.args.others.now),
    )
