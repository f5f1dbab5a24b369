use Rattle.std.specs.Prelude.{◌≤◌, length}
use Rattle.ratio_core.specs.Rational.{neg_ℚ, zero_ℚ}
use Rattle.certificates.specs.Duals.{rows_with}
use Rattle.cert_core.specs.Folds.{AddUp, adjoint_parts}
use Rattle.dual_laws.specs.Held.{adjoint}
use Rattle.adjoint_core.proofs.InOrder.{MadeInOrder}
use Rattle.adjoint_core.proofs.costs.cancelling.Given as goal

abbrev pub invariant-loop-i : goal.invariant-loop-i
invariant-loop-i l =
    let hs = rows_with l.duals l.rows.items in
    MadeInOrder (λ v. AddUp zero_ℚ (adjoint_parts hs v)) (λ v. v) (λ v. neg_ℚ (adjoint hs v))
    l.users l.i l.vars.items
    × (l.i ≤ length l.sums.items)
