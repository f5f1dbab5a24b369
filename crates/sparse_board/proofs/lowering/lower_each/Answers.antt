use Rattle.std.proofs.Common.{sym, ◌∙◌}
use Rattle.simplex_form.specs.Fit.{lowered_fits}
use Rattle.tableau_core.specs.LoweringLaws.{is_ok-err}
use Rattle.sparse_board.specs.Mixed as mixed
use Rattle.sparse_board.proofs.EachSteps.{each_refused}
use Rattle.sparse_board.proofs.lowering.lower_each.Goals as goal

pub returns-in_err-value-clause-fits : goal.returns-in_err-value-clause-fits
returns-in_err-value-clause-fits c =
    is_ok-err c.from_residual.result c.from_residual.ensures.0
    ∙ sym (each_refused c.args.width (mixed.number_of c.args.row.now) c.args.by.now
    (mixed.units_of c.args.step.now) c.loop-j.j c.loop-j-test.true
    (sym (c.in_err-value.ensures.fits ∙ (λ i. lowered_fits (c.number.ensures i) c.args.by.now
    (c.number-in-loop-j.ensures i)))))
