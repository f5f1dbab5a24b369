use Rattle.std.proofs.Common.{refl, sym}
use Rattle.sparse_board.specs.Mixed.{number_of, units_of, width_of}
use Rattle.tableau_core.specs.TestLaws.{first-refused, second-decides}
use Rattle.sparse_board.proofs.TestSteps.{refused_on, test_same}
use Rattle.sparse_board.proofs.cost_rows.CostRows.prepare.Goals as goal

pub returns-in_err-prepare_if-clause-fits : goal.returns-in_err-prepare_if-clause-fits
returns-in_err-prepare_if-clause-fits c =
    let costs = c.args.self.now in
    refused_on c.from_residual.result _ _ _ c.from_residual.ensures.1
    (λ e. first-refused (width_of costs.second.now) c.args.q costs.in_first
    (number_of costs.first.now)
    (number_of costs.second.now) (units_of c.args.step.now) (units_of c.args.step.now)
    (λ j b. refl) (width_of costs.first.now)
    c.requires.first_wide (sym e)) c.in_err-prepare_if.ensures.fits

pub returns-clause-fits : goal.returns-clause-fits
returns-clause-fits c =
    let costs = c.args.self.now in
    test_same c.prepare.result _ _
    (second-decides (width_of costs.second.now) c.args.q costs.in_first
    (number_of costs.first.now)
    (number_of costs.second.now) (units_of c.args.step.now) (units_of c.args.step.now)
    (λ j b. refl) (width_of costs.first.now)
    (width_of costs.second.now) c.requires.first_wide refl
    (sym c.in_ok-prepare_if.ensures.fits)) c.prepare.ensures.fits
