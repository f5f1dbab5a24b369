use Rattle.std.specs.Prelude.{All}
use Rattle.ratio_core.specs.Rational.{one_ℚ}
use Rattle.aff_core.specs.Function.{evaluated}
use Rattle.cert_core.specs.Folds.{EvaluationFits}
use Rattle.cert_core.specs.Points.{numbers_in}
use Rattle.adjoint_core.specs.Read.{expression_at}
use Rattle.adjoint_core.specs.Told.{FirstNot}
use Rattle.adjoint_core.proofs.InOrder.{made_refused, made_step, told_on}
use Rattle.adjoint_core.proofs.values.values.Goals as goal

pub returns-in_err-value : goal.returns-in_err-value
returns-in_err-value c =
    let f = expression_at c.args.places.now.exprs in
    let x = numbers_in c.args.at.now in
    let us = c.args.users.now in
    told_on c.from_residual-in_err-value.result c.in_err-value.field-0.0
    (EvaluationFits one_ℚ (f c.user-item.result) x) (All (λ v. EvaluationFits one_ℚ (f v) x) us) _ _
    _ (FirstNot (λ v. EvaluationFits one_ℚ (f v) x) (λ v. v) us)
    c.from_residual-in_err-value.ensures.1 c.in_err-value.ensures
    (made_refused (λ v. EvaluationFits one_ℚ (f v) x) (λ v. v) (λ v. evaluated one_ℚ (f v) x) us
    c.loop-user.user-index c.loop-user.values.items c.loop-user.invariant c.user-item.result
    c.user-item.is c.loop-user-test.true)

pub loop-user-preserved : goal.loop-user-preserved
loop-user-preserved c =
    let f = expression_at c.args.places.now.exprs in
    let x = numbers_in c.args.at.now in
    made_step (λ v. EvaluationFits one_ℚ (f v) x) (λ v. v) (λ v. evaluated one_ℚ (f v) x)
    c.args.users.now c.loop-user.user-index c.loop-user.values.items c.loop-user.invariant
    c.user-item.result c.user-item.is c.loop-user-test.true c.in_ok-value.field-0
    c.push.new.self.items c.in_ok-value.ensures.0 c.in_ok-value.ensures.1 c.in_ok-push.ensures.items
