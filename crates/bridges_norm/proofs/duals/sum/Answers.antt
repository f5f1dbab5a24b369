use Rattle.std.proofs.Common.{◌+◌, drop, arith, sym, subst, refl}
use Rattle.std.proofs.Math.ListN.{drop_of_length-le}
use Rattle.ratio_core.specs.AnsweredLaws.{overflowed}
use Rattle.bridges_norm.proofs.Loops.{AddsAsAll, adds_all, adds_fits, adds_more, adds_none, next}
use Rattle.bridges_norm.proofs.duals.sum.Goals as goal

pub loop-number-init : goal.loop-number-init
loop-number-init c = adds_none c.zero-sum.result c.args.numbers.now c.zero-sum.ensures

pub loop-number-preserved : goal.loop-number-preserved
loop-number-preserved c =
    subst (λ q. AddsAsAll q (drop (c.loop-number.number-index + 1) c.args.numbers.now)
    c.args.numbers.now) (sym c.in_ok-sum.ensures.exact.1)
    (adds_more c.loop-number.sum c.number-item.result
    (drop (c.loop-number.number-index + 1) c.args.numbers.now)
    (drop c.loop-number.number-index c.args.numbers.now) c.args.numbers.now
    (next c.args.numbers.now c.loop-number.number-index c.number-item.result c.loop-number-test.true
    c.number-item.is) c.in_ok-sum.ensures.exact.0 c.loop-number.invariant)

pub returns-in_err-sum : goal.returns-in_err-sum
returns-in_err-sum c =
    overflowed c.from_residual.result _ _ _ c.from_residual.ensures.1 refl
    (λ all. c.in_err-sum.ensures.exact
    (adds_fits c.loop-number.sum c.number-item.result
    (drop (c.loop-number.number-index + 1) c.args.numbers.now)
    (drop c.loop-number.number-index c.args.numbers.now) c.args.numbers.now
    (next c.args.numbers.now c.loop-number.number-index c.number-item.result c.loop-number-test.true
    c.number-item.is) c.loop-number.invariant all))

pub returns : goal.returns
returns c =
    adds_all c.loop-number.sum (drop c.loop-number.number-index c.args.numbers.now)
    c.args.numbers.now (drop_of_length-le c.args.numbers.now (omega arith))
    c.loop-number.invariant
