use Rattle.std.proofs.Common.{length, subst, sym, ◌∙◌}
use Rattle.tableau_core.specs.Rows.{AreWide}
use Rattle.tableau_core.specs.LoweringLaws.{is_ok-err}
use Rattle.tableau_core.proofs.PivotSteps.{costs-decide, others-refused}
use Rattle.tableau_core.proofs.pivoting.prepare_pivot.Goals as goal

pub returns-in_err-prepare_rows-clause-fits : goal.returns-in_err-prepare_rows-clause-fits
returns-in_err-prepare_rows-clause-fits c =
    let costs = c.args.costs.now in
    is_ok-err c.from_residual-in_err-prepare_rows.result
    c.from_residual-in_err-prepare_rows.ensures.0
    ∙ sym (others-refused (length costs.second.now.items) c.args.rows.now c.args.r c.args.q
    costs.in_first costs.first.now.items costs.second.now.items c.divide_row.new.step
    c.requires.row (subst (λ n. AreWide n c.args.rows.now) c.requires.step_long c.requires.wide)
    c.in_ok-divide_row.ensures.ok (sym c.in_err-prepare_rows.ensures.fits))

pub returns-in_err-prepare-clause-fits : goal.returns-in_err-prepare-clause-fits
returns-in_err-prepare-clause-fits c =
    let costs = c.args.costs.now in
    is_ok-err c.from_residual-in_err-prepare.result c.from_residual-in_err-prepare.ensures.0
    ∙ c.in_err-prepare.ensures.fits
    ∙ costs-decide (length costs.second.now.items) c.args.rows.now c.args.r c.args.q
    costs.in_first costs.first.now.items costs.second.now.items c.divide_row.new.step
    c.requires.row (subst (λ n. AreWide n c.args.rows.now) c.requires.step_long c.requires.wide)
    c.in_ok-divide_row.ensures.ok (sym c.in_ok-divide_row.ensures.fits)
    (sym c.in_ok-prepare_rows.ensures.fits)

pub returns-clause-fits : goal.returns-clause-fits
returns-clause-fits c =
    let costs = c.args.costs.now in
    c.in_ok-prepare.ensures.fits
    ∙ costs-decide (length costs.second.now.items) c.args.rows.now c.args.r c.args.q
    costs.in_first costs.first.now.items costs.second.now.items c.divide_row.new.step
    c.requires.row (subst (λ n. AreWide n c.args.rows.now) c.requires.step_long c.requires.wide)
    c.in_ok-divide_row.ensures.ok (sym c.in_ok-divide_row.ensures.fits)
    (sym c.in_ok-prepare_rows.ensures.fits)
