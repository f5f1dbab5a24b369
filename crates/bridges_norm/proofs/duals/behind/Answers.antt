use Rattle.std.proofs.Common.{◌++◌, ◌∷◌, ◌+◌, [], arith, sym, ap, subst, ◌∙◌}
use Rattle.ratio_core.specs.AnsweredLaws.{passed_on}
use Rattle.rational_laws.specs.Dot as numbers
use Rattle.std.specs.List.{zip}
use Rattle.bridge_face.specs.BackOf.{SumsFit}
use Rattle.bridge_face.specs.ZippedLaws.{at_place, length-paired, within}
use Rattle.bridges_norm.proofs.Loops.{LoweredFits, MadeBehind, fits_there, fit_lowered, lowered, lowered_fit, made_all, made_more, made_none, minus_is}
use Rattle.bridges_norm.proofs.duals.behind.Goals as goal

pub loop-n-init : goal.loop-n-init
loop-n-init c =
    made_none (c.args.first ∷ []) lowered LoweredFits (zip c.args.high.now c.args.low.now)
    c.push.new.self.items (c.in_ok-push.ensures.items
    ∙ ap (λ xs. xs ++ c.args.first ∷ []) c.in_ok-numbers.ensures.items)

pub loop-n-preserved : goal.loop-n-preserved
loop-n-preserved c =
    subst (MadeBehind (c.args.first ∷ []) lowered LoweredFits (c.loop-n.n + 1)
    (zip c.args.high.now c.args.low.now))
    (sym (c.in_ok-push-2.ensures.items ∙ ap (λ q. c.loop-n.numbers.items ++ q ∷ [])
    c.in_ok-less_number.ensures.1))
    (made_more (c.args.first ∷ []) lowered LoweredFits c.loop-n.n
    (zip c.args.high.now c.args.low.now) (c.index-high-n.result, c.index-low-n.result)
    c.loop-n.numbers.items
    (within c.loop-n.n c.args.high.now c.args.low.now c.requires c.index-high-n.result
    c.index-low-n.result c.loop-n-test.true c.index-high-n.is c.index-low-n.is)
    (at_place c.loop-n.n c.args.high.now c.args.low.now c.requires c.index-high-n.result
    c.index-low-n.result c.loop-n-test.true c.index-high-n.is c.index-low-n.is)
    c.in_ok-less_number.ensures.0 c.loop-n.invariant)

pub returns-in_err-less_number : goal.returns-in_err-less_number
returns-in_err-less_number c =
    passed_on c.from_residual-in_err-less_number.result c.in_err-less_number.field-0.0
    (LoweredFits (c.index-high-n.result, c.index-low-n.result))
    (SumsFit c.args.high.now (numbers.negated c.args.low.now)) _ _
    c.from_residual-in_err-less_number.ensures.1 c.in_err-less_number.ensures
    (λ all. fits_there (c.args.first ∷ []) lowered LoweredFits c.loop-n.n
    (zip c.args.high.now c.args.low.now) (c.index-high-n.result, c.index-low-n.result)
    (within c.loop-n.n c.args.high.now c.args.low.now c.requires c.index-high-n.result
    c.index-low-n.result c.loop-n-test.true c.index-high-n.is c.index-low-n.is)
    (at_place c.loop-n.n c.args.high.now c.args.low.now c.requires c.index-high-n.result
    c.index-low-n.result c.loop-n-test.true c.index-high-n.is c.index-low-n.is)
    (fit_lowered c.args.high.now c.args.low.now all))

pub returns : goal.returns
returns c =
    let long = length-paired c.args.high.now c.args.low.now c.requires in
    let done = made_all (c.args.first ∷ []) lowered LoweredFits c.loop-n.n
    (zip c.args.high.now c.args.low.now) c.loop-n.numbers.items (omega (arith, long))
    c.loop-n.invariant in (
      lowered_fit c.args.high.now c.args.low.now done.0,
      c.from_vec.ensures ∙ done.1
          ∙ ap (λ qs. c.args.first ∷ qs) (minus_is c.args.high.now c.args.low.now),
    )
