use Rattle.std.specs.Prelude.{◌≡◌, List, All, map}
use Rattle.std.proofs.Common.{subst}
use Rattle.aff_core.specs.Address.{Address}
use Rattle.ratio_core.specs.Folds.{sum_from}
use Rattle.ratio_core.specs.Rational.{zero_ℚ}
use Rattle.ratio_core.specs.Answers.{ExactWhere}
use Rattle.certificates.specs.Duals.{rows_with}
use Rattle.cert_core.specs.Folds.{AddUp, adjoint_parts}
use Rattle.adjoint_core.proofs.costs.adjoints_of.Goals as goal

pub returns : goal.returns
returns c =
    let parts = adjoint_parts (rows_with c.args.duals.now c.args.rows.now.items) in
    subst (λ (us : List Address). ExactWhere c.adjoint_of_rows.result
    (All (λ v. AddUp zero_ℚ (parts v)) us)
    (λ sums. sums.items ≡ map (λ v. sum_from zero_ℚ (parts v)) us))
    (cc (c.ascending-variables.ensures, c.in_ok-from_slice.ensures.items)) c.adjoint_of_rows.ensures
