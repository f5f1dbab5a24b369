use Rattle.std.proofs.Common.{◌≡◌, sym, ◌∙◌, ap, subst}
use Rattle.ratio_core.specs.Rational.{SumFits, neg_ℚ, zero_ℚ, ◌+ℚ◌}
use Rattle.rational_laws.specs.Field.{zero-+ℚ}
use Rattle.rational_laws.specs.Fitting.{Fits_neg_ℚ, SumFits_zero}
use Rattle.tableau_core.proofs.row.difference.Goals as goal

pub returns-then-is_zero : goal.returns-then-is_zero
returns-then-is_zero c =
    let zero : c.args.number.now ≡ zero_ℚ = c.is_zero.ensures.0 c.if-is_zero.true in
    let negative = neg_ℚ c.args.multiple.now in
    record {
      exact = ((
        subst (λ q. SumFits q negative) (sym zero)
            (SumFits_zero negative (Fits_neg_ℚ c.args.multiple.now c.num-fits.ensures.fits)),
        c.neg.ensures ∙ sym (zero-+ℚ negative) ∙ ap (λ q. q +ℚ negative) (sym zero),
      ));
    }
