use Rattle.ratio_core.specs.Rational.{one_ℚ}
use Rattle.aff_core.specs.Function.{evaluated}
use Rattle.cert_core.specs.Folds.{EvaluationFits}
use Rattle.cert_core.specs.Points.{numbers_in}
use Rattle.adjoint_core.specs.Read.{expression_at}
use Rattle.adjoint_core.proofs.InOrder.{MadeInOrder}
use Rattle.adjoint_core.proofs.values.values.Given as goal

abbrev pub invariant-loop-user : goal.invariant-loop-user
invariant-loop-user l =
    MadeInOrder
    (λ v. EvaluationFits one_ℚ (expression_at l.places.exprs v) (numbers_in l.at)) (λ v. v)
    (λ v. evaluated one_ℚ (expression_at l.places.exprs v) (numbers_in l.at))
    l.users l.user-index l.values.items
