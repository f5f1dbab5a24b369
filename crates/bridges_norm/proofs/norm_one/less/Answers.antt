use Rattle.std.proofs.Common.{◌++◌, ◌∷◌, ◌+◌, [], arith, sym, ap, subst, ◌∙◌}
use Rattle.std.specs.List.{zip}
use Rattle.ratio_core.specs.AnsweredLaws.{passed_on}
use Rattle.aff_core.specs.Arithmetic.{PlusFits}
use Rattle.aff_core.specs.Function.{negated}
use Rattle.bridge_face.specs.ComponentLaws.{variables}
use Rattle.bridge_face.specs.ImageOf.{EachSumFits, negations}
use Rattle.bridge_face.specs.Images.{difference}
use Rattle.bridge_face.specs.ZippedLaws.{at_place, length-paired, within}
use Rattle.bridges_norm.proofs.Loops.{LessFits, MadeBehind, fits_there, fit_less, made_all, made_more, made_none, less_pair, less_fit, less_pairs}
use Rattle.bridges_norm.proofs.norm_one.less.Goals as goal

pub loop-n-init : goal.loop-n-init
loop-n-init c =
    made_none (c.args.rest ∷ []) less_pair LessFits (zip c.args.vars.now c.args.others.now)
    c.push.new.self.items (c.in_ok-push.ensures.items
    ∙ ap (λ xs. xs ++ c.args.rest ∷ []) c.in_ok-less.ensures.items)

pub loop-n-preserved : goal.loop-n-preserved
loop-n-preserved c =
    subst (MadeBehind (c.args.rest ∷ []) less_pair LessFits (c.loop-n.n + 1)
    (zip c.args.vars.now c.args.others.now))
    (sym (c.in_ok-push-2.ensures.items ∙ ap (λ f. c.loop-n.less.items ++ f ∷ [])
    (c.in_ok-less_function.ensures.1 ∙ ap (λ g. difference g c.index-others-n.result)
    c.in_ok-var.ensures)))
    (made_more (c.args.rest ∷ []) less_pair LessFits c.loop-n.n
    (zip c.args.vars.now c.args.others.now) (c.index-vars-n.result, c.index-others-n.result)
    c.loop-n.less.items
    (within c.loop-n.n c.args.vars.now c.args.others.now c.requires c.index-vars-n.result
    c.index-others-n.result c.loop-n-test.true c.index-vars-n.is c.index-others-n.is)
    (at_place c.loop-n.n c.args.vars.now c.args.others.now c.requires c.index-vars-n.result
    c.index-others-n.result c.loop-n-test.true c.index-vars-n.is c.index-others-n.is)
    (subst (λ g. PlusFits g (negated c.index-others-n.result)) c.in_ok-var.ensures
    c.in_ok-less_function.ensures.0) c.loop-n.invariant)

pub returns-in_err-less_function : goal.returns-in_err-less_function
returns-in_err-less_function c =
    passed_on c.from_residual-in_err-less_function.result c.in_err-less_function.field-0.0
    (PlusFits c.in_ok-var.var (negated c.index-others-n.result))
    (EachSumFits (variables c.args.vars.now) (negations c.args.others.now)) _ _
    c.from_residual-in_err-less_function.ensures.1 c.in_err-less_function.ensures
    (λ all. subst (λ g. PlusFits g (negated c.index-others-n.result)) (sym c.in_ok-var.ensures)
    (fits_there (c.args.rest ∷ []) less_pair LessFits c.loop-n.n
    (zip c.args.vars.now c.args.others.now) (c.index-vars-n.result, c.index-others-n.result)
    (within c.loop-n.n c.args.vars.now c.args.others.now c.requires c.index-vars-n.result
    c.index-others-n.result c.loop-n-test.true c.index-vars-n.is c.index-others-n.is)
    (at_place c.loop-n.n c.args.vars.now c.args.others.now c.requires c.index-vars-n.result
    c.index-others-n.result c.loop-n-test.true c.index-vars-n.is c.index-others-n.is)
    (fit_less c.args.vars.now c.args.others.now all)))

pub returns : goal.returns
returns c =
    let long = length-paired c.args.vars.now c.args.others.now c.requires in
    let done = made_all (c.args.rest ∷ []) less_pair LessFits c.loop-n.n
    (zip c.args.vars.now c.args.others.now) c.loop-n.less.items (omega (arith, long))
    c.loop-n.invariant in (
      less_fit c.args.vars.now c.args.others.now done.0,
      done.1 ∙ ap (λ fs. (c.args.rest ∷ []) ++ fs)
          (less_pairs c.args.vars.now c.args.others.now),
    )
