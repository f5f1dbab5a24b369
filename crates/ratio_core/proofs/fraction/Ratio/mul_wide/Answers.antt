use Rattle.std.proofs.Common.{◌∙◌, arith, not}
use Rattle.std.specs.Bool.{beq}
use Rattle.ratio_core.specs.Rational.{signed}
use Rattle.ratio_core.proofs.Kept.{refused_is}
use Rattle.ratio_core.proofs.Products.{IsProduct, den_refused, product_made, size_refused}
use Rattle.ratio_core.proofs.fraction.Ratio.mul_wide.Goals as goal
use Rattle.ratio_core.proofs.fraction.Ratio.mul_wide.Goals.{After-is_negative-2}

pub returns-in_err-size-clause-exact : goal.returns-in_err-size-clause-exact
returns-in_err-size-clause-exact c =
    refused_is _ c.from_residual.result c.from_residual.ensures.0
    (size_refused
    c.args.self.now c.args.other.now c.size-left_size.ensures.value c.over-left_den.ensures.value
    c.size-right_size.ensures.value c.over-right_den.ensures.value
    c.greatest_common_divisor-left.ensures.value c.greatest_common_divisor-right.ensures.value
    c.quotient.ensures c.quotient-2.ensures
    c.in_err-size.ensures.exact)

pub returns-in_err-den-clause-exact : goal.returns-in_err-den-clause-exact
returns-in_err-den-clause-exact c =
    refused_is _ c.from_residual-in_err-den.result c.from_residual-in_err-den.ensures.0
    (den_refused
    c.args.self.now c.args.other.now c.size-left_size.ensures.value c.over-left_den.ensures.value
    c.size-right_size.ensures.value c.over-right_den.ensures.value
    c.greatest_common_divisor-left.ensures.value c.greatest_common_divisor-right.ensures.value
    c.quotient.ensures c.quotient-2.ensures c.quotient-3.ensures c.quotient-4.ensures
    c.in_err-den.ensures.exact)

made : (c : After-is_negative-2) → IsProduct c.args.self.now c.args.other.now
    (signed (not (beq c.is_negative.result c.is_negative-2.result)) c.in_ok-size.size)
    c.in_ok-den.den
made c =
    product_made
    c.args.self.now c.args.other.now c.size-left_size.ensures.value c.over-left_den.ensures.value
    c.size-right_size.ensures.value c.over-right_den.ensures.value
    c.greatest_common_divisor-left.ensures.value c.greatest_common_divisor-right.ensures.value
    c.quotient.ensures c.quotient-2.ensures c.quotient-3.ensures c.quotient-4.ensures
    c.is_negative.ensures c.is_negative-2.ensures c.in_ok-size.ensures.exact.1
    c.in_ok-den.ensures.exact.1
    (omega (arith, c.in_ok-size.ensures.exact)) (omega (arith, c.in_ok-den.ensures.exact))

pub store-requires : goal.store-requires
store-requires c = (made c).stored

pub returns-clause-exact : goal.returns-clause-exact
returns-clause-exact c =
    let all = made (goal.at.returns-clause-exact c).After-is_negative-2 in
    (all.fits, c.store.ensures ∙ all.value)
