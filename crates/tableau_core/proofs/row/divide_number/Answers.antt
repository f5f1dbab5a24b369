use Rattle.std.proofs.Common.{◌≡◌, sym, ◌∙◌, ap, subst}
use Rattle.ratio_core.specs.Rational.{Fits, inverse_ℚ, zero_ℚ, ◌/ℚ◌, ◌*ℚ◌}
use Rattle.rational_laws.specs.Field.{zero-*ℚ}
use Rattle.tableau_core.proofs.row.divide_number.Goals as goal

pub returns-then-is_zero : goal.returns-then-is_zero
returns-then-is_zero c =
    let zero : c.args.number.now ≡ zero_ℚ = c.is_zero.ensures.0 c.if-is_zero.true in
    let same : c.args.number.now ≡ c.args.number.now /ℚ c.args.by.now =
    zero ∙ sym (zero-*ℚ (inverse_ℚ c.args.by.now)) ∙ ap (λ q. q *ℚ inverse_ℚ c.args.by.now)
    (sym zero) in
    record { exact = ((c.requires.nonzero, subst Fits same c.num-fits.ensures.fits), same) }
