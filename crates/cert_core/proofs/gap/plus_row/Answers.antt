use Rattle.std.specs.Prelude.{◌≡◌}
use Rattle.std.proofs.Common.{refl, subst, sym}
use Rattle.ratio_core.specs.Folds.{sum_from}
use Rattle.ratio_core.specs.Rational.{SumFits}
use Rattle.ratio_core.specs.AnsweredLaws.{overflowed}
use Rattle.certificates.specs.Duals.{row_with}
use Rattle.certificates.specs.Points.{functions_of}
use Rattle.cert_core.specs.Components.{functions_in}
use Rattle.cert_core.specs.Folds.{AddUp, gap_parts_of}
use Rattle.cert_core.proofs.Parts.{with_constants}
use Rattle.cert_core.proofs.gap.plus_row.Goals as goal

pub returns-in_err-low : goal.returns-in_err-low
unfolding AddUp
returns-in_err-low c =
    let parts = gap_parts_of (row_with c.args.duals.now c.args.row.now) in
    overflowed c.from_residual.result _ (AddUp c.args.sum.now parts)
    (λ q. q ≡ sum_from c.args.sum.now parts) c.from_residual.ensures.1 refl
    (λ all. c.in_err-low.ensures all.0)

pub returns-in_err-with_low : goal.returns-in_err-with_low
unfolding AddUp
returns-in_err-with_low c =
    let parts = gap_parts_of (row_with c.args.duals.now c.args.row.now) in
    overflowed c.from_residual-in_err-with_low.result _ (AddUp c.args.sum.now parts)
    (λ q. q ≡ sum_from c.args.sum.now parts) c.from_residual-in_err-with_low.ensures.1 refl
    (λ all. c.in_err-with_low.ensures.exact
    (subst (SumFits c.args.sum.now) (sym c.in_ok-low.ensures.1) all.1))

pub returns : goal.returns
returns c =
    with_constants c.less_constants.result c.args.sum.now c.in_ok-low.low c.in_ok-with_low.with_low
    c.args.duals.now c.args.row.now.set (functions_of c.args.row.now.func)
    (functions_in c.components_of.result) c.components_of.ensures c.in_ok-low.ensures.0
    c.in_ok-low.ensures.1 c.in_ok-with_low.ensures.exact.0 c.in_ok-with_low.ensures.exact.1
    c.less_constants.ensures
