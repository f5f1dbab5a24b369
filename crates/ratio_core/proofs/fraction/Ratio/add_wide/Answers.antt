use Rattle.std.proofs.Common.{◌*◌, ◌^◌, ◌<◌, ◌∙◌, ap, arith, refl, subst, sym}
use Rattle.ratio_core.specs.Rational.{signed}
use Rattle.ratio_core.proofs.Kept.{refused_is}
use Rattle.ratio_core.proofs.Sums.{IsSum, den_refused, left_refused, right_refused, sum_made, sum_refused}
use Rattle.ratio_core.proofs.fraction.Ratio.add_wide.Goals as goal
use Rattle.ratio_core.proofs.fraction.Ratio.add_wide.Goals.{After-quotient-2}

pub returns-in_err-left-clause-exact : goal.returns-in_err-left-clause-exact
returns-in_err-left-clause-exact c =
    refused_is _ c.from_residual.result c.from_residual.ensures.0
    (left_refused
    c.args.self.now c.args.other.now c.over-left_den.ensures.value c.over-right_den.ensures.value
    c.greatest_common_divisor-common.ensures.value c.quotient-left_over.ensures
    c.quotient-right_over.ensures c.size.ensures.value refl
    c.in_err-left.ensures.exact)

pub returns-in_err-right-clause-exact : goal.returns-in_err-right-clause-exact
returns-in_err-right-clause-exact c =
    refused_is _ c.from_residual-in_err-right.result c.from_residual-in_err-right.ensures.0
    (right_refused
    c.args.self.now c.args.other.now c.over-left_den.ensures.value c.over-right_den.ensures.value
    c.greatest_common_divisor-common.ensures.value c.quotient-left_over.ensures
    c.quotient-right_over.ensures c.size.ensures.value c.size-2.ensures.value
    c.in_err-right.ensures.exact)

pub returns-then-size-gt-GREATEST_PART-clause-exact : goal.returns-then-size-gt-GREATEST_PART-clause-exact
returns-then-size-gt-GREATEST_PART-clause-exact c =
    sum_refused
    c.args.self.now c.args.other.now c.over-left_den.ensures.value c.over-right_den.ensures.value
    c.greatest_common_divisor-common.ensures.value c.quotient-left_over.ensures
    c.quotient-right_over.ensures c.size.ensures.value c.size-2.ensures.value
    c.signed_sum-is_negative.result.0 c.signed_sum-is_negative.result.1 c.is_negative.ensures
    c.is_negative-2.ensures c.in_ok-left.ensures.exact.1 c.in_ok-right.ensures.exact.1
    c.signed_sum-is_negative.ensures
    (omega arith)

pub returns-in_err-den-clause-exact : goal.returns-in_err-den-clause-exact
returns-in_err-den-clause-exact c =
    refused_is _ c.from_residual-in_err-den.result c.from_residual-in_err-den.ensures.0
    (den_refused
    c.args.self.now c.args.other.now c.over-left_den.ensures.value c.over-right_den.ensures.value
    c.greatest_common_divisor-common.ensures.value c.quotient-left_over.ensures
    c.quotient-right_over.ensures c.size.ensures.value c.size-2.ensures.value
    c.signed_sum-is_negative.result.0 c.signed_sum-is_negative.result.1 c.is_negative.ensures
    c.is_negative-2.ensures c.in_ok-left.ensures.exact.1 c.in_ok-right.ensures.exact.1
    c.signed_sum-is_negative.ensures c.last_wide_divisor-last.ensures.value
    (subst (λ k. ¬ (c.quotient-left_over.result * k < 2 ^ 127)) c.quotient.ensures
    c.in_err-den.ensures.exact))

made : (c : After-quotient-2) → IsSum c.args.self.now c.args.other.now
    (signed c.signed_sum-is_negative.result.0 c.quotient-2.result) c.in_ok-den.den
made c =
    subst (λ n. IsSum c.args.self.now c.args.other.now
    (signed c.signed_sum-is_negative.result.0 n) c.in_ok-den.den) (sym c.quotient-2.ensures)
    (sum_made
    c.args.self.now c.args.other.now c.over-left_den.ensures.value c.over-right_den.ensures.value
    c.greatest_common_divisor-common.ensures.value c.quotient-left_over.ensures
    c.quotient-right_over.ensures c.size.ensures.value c.size-2.ensures.value
    c.signed_sum-is_negative.result.0 c.signed_sum-is_negative.result.1 c.is_negative.ensures
    c.is_negative-2.ensures c.in_ok-left.ensures.exact.1 c.in_ok-right.ensures.exact.1
    c.signed_sum-is_negative.ensures c.last_wide_divisor-last.ensures.value
    (c.in_ok-den.ensures.exact.1 ∙ ap (λ k. c.quotient-left_over.result * k) c.quotient.ensures)
    (omega (arith, c.in_ok-left.ensures.exact)) (omega (arith, c.in_ok-right.ensures.exact))
    (omega arith) (omega (arith, c.in_ok-den.ensures.exact)))

pub store-requires : goal.store-requires
store-requires c = (made c).stored

pub returns-clause-exact : goal.returns-clause-exact
returns-clause-exact c =
    let all = made (goal.at.returns-clause-exact c).After-quotient-2 in
    (all.fits, c.store.ensures ∙ all.value)
