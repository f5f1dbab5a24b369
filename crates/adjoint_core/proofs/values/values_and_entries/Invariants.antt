use Rattle.std.proofs.Common.{◌≡◌}
use Rattle.std.specs.Prelude.{map, take}
use Rattle.ratio_core.specs.Rational.{one_ℚ, zero_ℚ}
use Rattle.aff_core.specs.Function.{evaluated}
use Rattle.cert_core.specs.Folds.{EvaluationFits}
use Rattle.cert_core.specs.Points.{numbers_in}
use Rattle.adjoint_core.specs.Read.{expression_at}
use Rattle.adjoint_core.proofs.InOrder.{MadeInOrder}
use Rattle.adjoint_core.proofs.values.values_and_entries.Given as goal

abbrev pub invariant-loop-user : goal.invariant-loop-user
invariant-loop-user l =
    MadeInOrder
    (λ v. EvaluationFits one_ℚ (expression_at l.places.exprs v) (numbers_in l.at)
    × EvaluationFits zero_ℚ (expression_at l.places.exprs v) (numbers_in l.along)) (λ v. v)
    (λ v. evaluated one_ℚ (expression_at l.places.exprs v) (numbers_in l.at))
    l.users l.user-index l.values.items
    × (l.entries.items
    ≡ map (λ v. evaluated zero_ℚ (expression_at l.places.exprs v) (numbers_in l.along))
    (take l.user-index l.users))
