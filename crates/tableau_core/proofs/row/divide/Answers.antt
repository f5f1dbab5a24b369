use Rattle.std.proofs.Common.{sym, ◌∙◌}
use Rattle.tableau_core.specs.LoweringLaws.{is_ok-err}
use Rattle.tableau_core.proofs.RowSteps.{divide_made, divide_refused}
use Rattle.tableau_core.proofs.row.divide.Goals as goal

pub returns-in_err-next-clause-fits : goal.returns-in_err-next-clause-fits
returns-in_err-next-clause-fits c =
    is_ok-err c.from_residual.result c.from_residual.ensures.0
    ∙ sym (divide_refused c.args.by.now c.index-row-j.result c.args.row.now c.loop-j.j
    c.loop-j-test.true c.index-row-j.is c.requires.nonzero c.in_err-next.ensures.exact)

pub loop-j-preserved : goal.loop-j-preserved
loop-j-preserved c =
    divide_made c.args.by.now c.index-row-j.result c.in_ok-next.field-0 c.args.row.now c.loop-j.next
    c.loop-j.j c.loop-j.invariant c.loop-j-test.true c.index-row-j.is
    c.in_ok-next.ensures.exact.0.1 c.in_ok-next.ensures.exact.1
