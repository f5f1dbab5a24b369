use Rattle.std.proofs.Common.{ap, subst, sym, ◌≡◌, ◌∙◌}
use Rattle.ratio_core.specs.Rational.{SumFits, sum_fits, zero_ℚ, ◌+ℚ◌}
use Rattle.ratio_core.specs.RationalLaws.{sum_fits_Decides}
use Rattle.rational_laws.specs.Field.{+ℚ-zero}
use Rattle.tableau_core.specs.LoweringLaws.{false_from_not, is_ok-err}
use Rattle.rational_laws.specs.ZeroSums.{SumFits-zero_right}
use Rattle.tableau_core.proofs.start.add_entry.Goals as goal

pub returns-then-is_zero-clause-fits : goal.returns-then-is_zero-clause-fits
returns-then-is_zero-clause-fits c =
    let zero : c.args.entry.now ≡ zero_ℚ = c.is_zero.ensures.0 c.if-is_zero.true in
    sym ((sum_fits_Decides c.args.sum.now c.args.entry.now).1 (subst (SumFits c.args.sum.now)
    (sym zero) (SumFits-zero_right c.args.sum.now c.num-fits.ensures.fits)))

pub returns-then-is_zero-clause-ok : goal.returns-then-is_zero-clause-ok
returns-then-is_zero-clause-ok c =
    let zero : c.args.entry.now ≡ zero_ℚ = c.is_zero.ensures.0 c.if-is_zero.true in
    sym (ap (λ x. c.args.sum.now +ℚ x) zero ∙ +ℚ-zero c.args.sum.now)

pub returns-in_err-sum-clause-fits : goal.returns-in_err-sum-clause-fits
returns-in_err-sum-clause-fits c =
    is_ok-err c.from_residual.result c.from_residual.ensures.0
    ∙ sym (false_from_not (sum_fits c.args.sum.now c.args.entry.now)
    (SumFits c.args.sum.now c.args.entry.now)
    (sum_fits_Decides c.args.sum.now c.args.entry.now).0 c.in_err-sum.ensures.exact)

pub returns-clause-fits : goal.returns-clause-fits
returns-clause-fits c =
    sym ((sum_fits_Decides c.args.sum.now c.args.entry.now).1 c.in_ok-sum.ensures.exact.0)
