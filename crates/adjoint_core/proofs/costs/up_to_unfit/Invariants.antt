use Rattle.std.specs.Prelude.{◌-◌, length}
use Rattle.ratio_core.specs.Folds.{sum_from}
use Rattle.ratio_core.specs.Rational.{zero_ℚ}
use Rattle.certificates.specs.Duals.{rows_with}
use Rattle.cert_core.specs.Folds.{AddUp, adjoint_parts}
use Rattle.adjoint_core.proofs.Halving.{Between}
use Rattle.adjoint_core.proofs.costs.up_to_unfit.Given as goal

abbrev pub invariant-loop-end : goal.invariant-loop-end
invariant-loop-end l =
    let parts = adjoint_parts (rows_with l.duals l.rows.items) in
    Between (λ v. AddUp zero_ℚ (parts v)) (λ v. sum_from zero_ℚ (parts v)) l.users l.sums.items
    l.end

abbrev pub decreases-loop-end : goal.decreases-loop-end
decreases-loop-end l = l.end - length l.sums.items
