use Rattle.std.specs.Prelude.{◌≡◌, ◌+◌, ◌↔◌, IsTrue, All}
use Rattle.std.proofs.Common.{◌∙◌, ap₂, drop, refl, subst, sym}
use Rattle.std.proofs.Math.ListN.{drop_of_length-le}
use Rattle.ratio_core.specs.Rational.{SumFits, zero_ℚ, ◌+ℚ◌}
use Rattle.ratio_core.specs.AnsweredLaws.{overflowed}
use Rattle.map_laws.specs.LoopLaws.{next_item}
use Rattle.cert_core.proofs.Steps.{made_there, some_item}
use Rattle.cert_core.proofs.Tested.{tested_end, tested_refused, tested_step}
use Rattle.cert_core.proofs.equations.cancel.Goals as goal

pub returns-in_err-sum : goal.returns-in_err-sum
returns-in_err-sum c = λ a w a_is w_is.
    let us = c.args.variables.now in
    let i = c.loop-i.i in
    let at = some_item us i c.loop-i-test.true in
    let next = next_item us us i at.0 refl at.1 c.loop-i-test.true in
    let a_at = made_there a us c.args.adjoint.now i at.0 c.index-adjoint-i.result a_is at.1
    c.loop-i-test.true c.index-adjoint-i.is in
    let w_at = made_there w us c.args.duals.now i at.0 c.index-duals-i.result w_is at.1
    c.loop-i-test.true c.index-duals-i.is in
    overflowed c.from_residual.result _ (All (λ v. SumFits (a v) (w v)) us)
    (λ holds. IsTrue holds ↔ All (λ v. a v +ℚ w v ≡ zero_ℚ) us) c.from_residual.ensures.1 refl
    (λ all. c.in_err-sum.ensures.exact (subst (λ q. SumFits q c.index-duals-i.result) (sym a_at)
    (subst (λ q. SumFits (a at.0) q) (sym w_at)
    (tested_refused (λ v. SumFits (a v) (w v)) (λ v. a v +ℚ w v ≡ zero_ℚ) c.loop-i.all us
    (drop i us) (drop (i + 1) us) at.0 (c.loop-i.invariant a w a_is w_is) next all))))

pub loop-i-preserved : goal.loop-i-preserved
loop-i-preserved c = λ a w a_is w_is.
    let us = c.args.variables.now in
    let i = c.loop-i.i in
    let at = some_item us i c.loop-i-test.true in
    let next = next_item us us i at.0 refl at.1 c.loop-i-test.true in
    let a_at = made_there a us c.args.adjoint.now i at.0 c.index-adjoint-i.result a_is at.1
    c.loop-i-test.true c.index-adjoint-i.is in
    let w_at = made_there w us c.args.duals.now i at.0 c.index-duals-i.result w_is at.1
    c.loop-i-test.true c.index-duals-i.is in
    let sum_is : c.in_ok-sum.sum ≡ a at.0 +ℚ w at.0 =
    c.in_ok-sum.ensures.exact.1 ∙ ap₂ ◌+ℚ◌ a_at w_at in
    tested_step (λ v. SumFits (a v) (w v)) (λ v. a v +ℚ w v ≡ zero_ℚ) c.loop-i.all
    c.is_zero-holds.result us (drop i us) (drop (i + 1) us) at.0
    (c.loop-i.invariant a w a_is w_is) next
    (subst (λ q. SumFits q (w at.0)) a_at
    (subst (λ q. SumFits c.index-adjoint-i.result q) w_at c.in_ok-sum.ensures.exact.0)) (
      λ t. sym sum_is ∙ c.is_zero-holds.ensures.0 t,
      λ z. c.is_zero-holds.ensures.1 (sum_is ∙ z),
    )

pub returns : goal.returns
returns c = λ a w a_is w_is.
    tested_end (λ v. SumFits (a v) (w v)) (λ v. a v +ℚ w v ≡ zero_ℚ) c.loop-i.all
    c.args.variables.now (drop c.loop-i.i c.args.variables.now)
    (c.loop-i.invariant a w a_is w_is)
    (drop_of_length-le c.args.variables.now c.loop-i-test.false)
