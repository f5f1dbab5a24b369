use Rattle.std.proofs.Common.{ap, sym, ◌∙◌}
use Rattle.simplex_form.specs.Fit.{pivot_fits}
use Rattle.tableau_core.specs.BoardContents.{readings_of}
use Rattle.simplex_core.proofs.Running.{on_ok_then}
use Rattle.simplex_core.proofs.run.step.Goals as goal

pub returns-clause-fits : goal.returns-clause-fits
returns-clause-fits g c =
    on_ok_then c.pivot.result _ _
    (λ e. sym (ap (λ t. pivot_fits t.in_first (readings_of t) c.args.row c.args.column)
    c.leave.ensures) ∙ e) c.pivot.ensures.fits

pub returns-clause-overflow : goal.returns-clause-overflow
returns-clause-overflow g c = λ of.
    sym (ap (λ t. pivot_fits t.in_first (readings_of t) c.args.row c.args.column) c.leave.ensures)
    ∙ c.pivot.ensures.overflow of
