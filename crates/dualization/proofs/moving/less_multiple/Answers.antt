use Rattle.std.specs.Prelude.{◌≡◌, ◌<◌, length, refl}
use Rattle.std.proofs.Common.{◌∙◌, ap, arith, subst, sym}
use Rattle.ratio_core.specs.Rational.{SumFits, neg_ℚ, ◌-ℚ◌}
use Rattle.ratio_core.specs.AnsweredLaws.{overflowed}
use Rattle.rational_laws.specs.Dot.{minus, times}
use Rattle.cert_core.proofs.Steps.{some_item}
use Rattle.dualization.specs.Fitting.{MultipleFits}
use Rattle.dualization.proofs.PlaceLemmas.{less_unfit, multiple_all, multiple_made, product_unfit, reached}
use Rattle.dualization.proofs.moving.less_multiple.Goals as goal

pub loop-i-preserved : goal.loop-i-preserved
loop-i-preserved c =
    multiple_made c.args.by.now c.args.numbers.now c.args.others.now c.loop-i.i c.loop-i.left.items
    c.index-numbers-i.result c.index-others-i.result (omega arith) (omega arith)
    c.index-numbers-i.is c.index-others-i.is c.loop-i.invariant c.in_ok-difference.difference
    c.push.new.self.items c.in_ok-product.ensures.exact.0
    (subst (λ q. SumFits c.index-numbers-i.result (neg_ℚ q)) c.in_ok-product.ensures.exact.1
    c.in_ok-difference.ensures.exact.0)
    (c.in_ok-difference.ensures.exact.1
    ∙ ap (λ q. c.index-numbers-i.result -ℚ q) c.in_ok-product.ensures.exact.1)
    c.in_ok-push.ensures.items

pub returns-in_err-product : goal.returns-in_err-product
returns-in_err-product c =
    let within : c.loop-i.i < length c.args.numbers.now = omega arith in
    let p = some_item c.args.numbers.now c.loop-i.i within in
    overflowed c.from_residual-in_err-product.result _
    (MultipleFits c.args.by.now c.args.numbers.now c.args.others.now)
    (λ v. v.items ≡ minus c.args.numbers.now (times c.args.by.now c.args.others.now))
    c.from_residual-in_err-product.ensures.1 refl
    (product_unfit c.args.by.now c.args.numbers.now c.args.others.now c.loop-i.i
    c.loop-i.left.items p.0 c.index-others-i.result within (omega arith) p.1 c.index-others-i.is
    c.loop-i.invariant c.in_err-product.ensures.exact)

pub returns-in_err-difference : goal.returns-in_err-difference
returns-in_err-difference c =
    overflowed c.from_residual-in_err-difference.result _
    (MultipleFits c.args.by.now c.args.numbers.now c.args.others.now)
    (λ v. v.items ≡ minus c.args.numbers.now (times c.args.by.now c.args.others.now))
    c.from_residual-in_err-difference.ensures.1 refl
    (less_unfit c.args.by.now c.args.numbers.now c.args.others.now c.loop-i.i
    c.loop-i.left.items c.index-numbers-i.result c.index-others-i.result (omega arith)
    (omega arith) c.index-numbers-i.is c.index-others-i.is c.loop-i.invariant
    (λ fits. c.in_err-difference.ensures.exact
    (subst (λ q. SumFits c.index-numbers-i.result (neg_ℚ q)) (sym c.in_ok-product.ensures.exact.1)
    fits)))

pub returns : goal.returns
returns c =
    multiple_all c.args.by.now c.args.numbers.now c.args.others.now c.loop-i.i
    c.loop-i.left.items
    (reached (length c.args.numbers.now) (length c.args.others.now) c.common_count-count.result
    c.loop-i.i c.loop-i-test.false c.common_count-count.ensures.all) c.loop-i.invariant
