use Rattle.std.proofs.Common.{◌∙◌, FitsSigned, ap, not, rules, w64}
use Rattle.ratio_core.specs.Rational.{rational_eq, reduce, zero_ℚ}
use Rattle.whole_rows.proofs.RatioSteps.{nonzero_told}
use Rattle.whole_rows.proofs.ratio.is_nonzero_at.Goals as goal

pub returns : goal.returns
returns c =
    let row = c.args.row.now in
    let fits : FitsSigned w64 c.numerator.result = search rules in
    nonzero_told c.numerator.result row.den row.above fits
    ∙ ap (λ n. not (rational_eq (reduce n row.den) zero_ℚ)) c.numerator.ensures
