use Rattle.std.specs.Prelude.{List, IfOk}
use Rattle.std.proofs.Common.{subst}
use Rattle.aff_core.specs.Address.{Address}
use Rattle.ratio_core.specs.Folds.{sum_from}
use Rattle.ratio_core.specs.Rational.{zero_ℚ}
use Rattle.certificates.specs.Duals.{rows_with}
use Rattle.cert_core.specs.Folds.{AddUp, adjoint_parts}
use Rattle.adjoint_core.specs.Prefix.{IsAsFarAs}
use Rattle.adjoint_core.proofs.costs.adjoints.Goals as goal

pub returns-in-Err-Overflow : goal.returns-in-Err-Overflow
returns-in-Err-Overflow c =
    let parts = adjoint_parts (rows_with c.args.duals.now c.args.rows.now.items) in
    subst (λ (us : List Address). IfOk c.up_to_unfit.result (λ sums. IsAsFarAs
    (λ v. AddUp zero_ℚ (parts v)) (λ v. sum_from zero_ℚ (parts v)) us sums.items))
    c.addresses.ensures.value c.up_to_unfit.ensures
