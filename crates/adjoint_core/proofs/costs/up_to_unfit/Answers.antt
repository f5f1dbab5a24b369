use Rattle.std.specs.Prelude.{refl}
use Rattle.std.proofs.Common.{arith}
use Rattle.ratio_core.specs.Folds.{sum_from}
use Rattle.ratio_core.specs.Rational.{zero_ℚ}
use Rattle.certificates.specs.Duals.{rows_with}
use Rattle.cert_core.specs.Folds.{AddUp, adjoint_parts}
use Rattle.adjoint_core.proofs.Halving.{between_begin, between_end}
use Rattle.adjoint_core.proofs.costs.up_to_unfit.Goals as goal

pub loop-end-init : goal.loop-end-init
loop-end-init c =
    let parts = adjoint_parts (rows_with c.args.duals.now c.args.rows.now.items) in
    between_begin (λ v. AddUp zero_ℚ (parts v)) (λ v. sum_from zero_ℚ (parts v)) c.args.users.now
    _ _ c.new-sums.ensures.items refl c.requires.unfit

pub returns : goal.returns
returns c =
    let parts = adjoint_parts (rows_with c.args.duals.now c.args.rows.now.items) in
    between_end (λ v. AddUp zero_ℚ (parts v)) (λ v. sum_from zero_ℚ (parts v)) c.args.users.now
    c.loop-end.sums.items c.loop-end.end c.loop-end.invariant
    (omega (arith, c.len.ensures, c.loop-end-test.false))
