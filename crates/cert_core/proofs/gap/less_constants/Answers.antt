use Rattle.std.specs.Prelude.{◌≡◌}
use Rattle.std.proofs.Common.{subst, sym}
use Rattle.ratio_core.specs.Folds.{sum_from}
use Rattle.rational_laws.specs.Dot.{negated}
use Rattle.aff_core.specs.FunctionLists.{constants}
use Rattle.cert_core.specs.Components.{functions_in}
use Rattle.cert_core.specs.Folds.{AddUp, products}
use Rattle.cert_core.proofs.Parts.{variables_less}
use Rattle.cert_core.proofs.gap.less_constants.Goals as goal

pub returns-in-Variables : goal.returns-in-Variables
returns-in-Variables c =
    let sum = c.args.sum.now in
    let w = c.args.duals.now in
    subst (λ k. AddUp sum (negated (products w (constants (functions_in k))))
    × (sum ≡ sum_from sum (negated (products w (constants (functions_in k))))))
    (sym c.in-Variables.is) (variables_less sum w c.in-Variables.field-0.now c.requires.fits)
