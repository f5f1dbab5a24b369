use Rattle.std.proofs.Common.{sym, ◌∙◌}
use Rattle.tableau_core.specs.LoweringLaws.{difference_refused, is_ok-err, lowered_made, product_refused}
use Rattle.tableau_core.proofs.row.lowered.Goals as goal

pub returns-in_err-multiple-clause-fits : goal.returns-in_err-multiple-clause-fits
returns-in_err-multiple-clause-fits c =
    is_ok-err c.from_residual.result c.from_residual.ensures.0
    ∙ sym (product_refused c.args.number.now c.args.by.now c.args.step.now
    c.in_err-multiple.ensures.exact)

pub returns-in_err-rest-clause-fits : goal.returns-in_err-rest-clause-fits
returns-in_err-rest-clause-fits c =
    is_ok-err c.from_residual-in_err-rest.result c.from_residual-in_err-rest.ensures.0
    ∙ sym (difference_refused c.args.number.now c.args.by.now c.args.step.now
    c.in_ok-multiple.multiple c.in_ok-multiple.ensures.exact.1 c.in_err-rest.ensures.exact)

pub returns-clause-fits : goal.returns-clause-fits
returns-clause-fits c =
    sym (lowered_made c.args.number.now c.args.by.now c.args.step.now c.in_ok-multiple.multiple
    c.in_ok-multiple.ensures.exact.1 c.in_ok-multiple.ensures.exact.0
    c.in_ok-rest.ensures.exact.0)
