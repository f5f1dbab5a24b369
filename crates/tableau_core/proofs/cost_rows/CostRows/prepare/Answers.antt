use Rattle.std.proofs.Common.{length, refl, sym, ◌∙◌}
use Rattle.tableau_core.specs.LoweringLaws.{is_ok-err}
use Rattle.tableau_core.specs.Row.{cell}
use Rattle.tableau_core.specs.TestLaws.{first-refused, second-decides}
use Rattle.tableau_core.proofs.cost_rows.CostRows.prepare.Goals as goal

pub returns-in_err-prepare_if-clause-fits : goal.returns-in_err-prepare_if-clause-fits
returns-in_err-prepare_if-clause-fits c =
    let costs = c.args.self.now in
    is_ok-err c.from_residual.result c.from_residual.ensures.0
    ∙ sym (first-refused (length costs.second.now.items) c.args.q costs.in_first
    (cell costs.first.now.items) (cell costs.second.now.items) (cell c.args.step.now)
    (cell c.args.step.now) (λ j b. refl) (length costs.first.now.items) c.requires.first_long
    c.in_err-prepare_if.ensures.fits)

pub returns-clause-fits : goal.returns-clause-fits
returns-clause-fits c =
    let costs = c.args.self.now in
    c.prepare.ensures.fits
    ∙ second-decides (length costs.second.now.items) c.args.q costs.in_first
    (cell costs.first.now.items) (cell costs.second.now.items) (cell c.args.step.now)
    (cell c.args.step.now) (λ j b. refl) (length costs.first.now.items)
    (length costs.second.now.items) c.requires.first_long refl c.in_ok-prepare_if.ensures.fits
