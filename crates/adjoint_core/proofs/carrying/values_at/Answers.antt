use Rattle.std.specs.Prelude.{◌≡◌, List, All, map}
use Rattle.std.proofs.Common.{◌∙◌}
use Rattle.ratio_core.specs.Rational.{Rational, one_ℚ}
use Rattle.aff_core.specs.Address.{Address}
use Rattle.aff_core.specs.Function.{evaluated}
use Rattle.cert_core.specs.Folds.{EvaluationFits}
use Rattle.adjoint_core.specs.Read.{expression_at}
use Rattle.adjoint_core.specs.Told.{FirstNot, TellsCarried}
use Rattle.adjoint_core.proofs.Moved.{move2}
use Rattle.adjoint_core.proofs.carrying.values_at.Goals as goal

pub returns : goal.returns
returns c =
    let f = expression_at c.args.places.now.exprs in
    move2 (λ (us : List Address) (p : Address → Rational).
    TellsCarried c.values-made.result (All (λ v. EvaluationFits one_ℚ (f v) p) us)
    (λ values. values.items ≡ map (λ v. evaluated one_ℚ (f v) p) us)
    (FirstNot (λ v. EvaluationFits one_ℚ (f v) p) (λ v. v) us)) c.values-made.ensures
    c.addresses.ensures.value (c.point.ensures ∙ c.in_ok-leaf.ensures)
