use Rattle.std.proofs.Common.{ap, sym, ◌∙◌}
use Rattle.ratio_core.specs.Rational.{◌/ℚ◌}
use Rattle.tableau_core.specs.BoardNumbers.{quotients_fit}
use Rattle.sparse_board.specs.Numbers.{number_of, width_of}
use Rattle.sparse_board.proofs.TestSteps.{overflow_on}
use Rattle.sparse_board.proofs.step.Step.set_wide.Goals as goal

pub returns-in_err-divide-clause-fits : goal.returns-in_err-divide-clause-fits
returns-in_err-divide-clause-fits c =
    overflow_on c.from_residual-in_err-divide.result _ c.from_residual-in_err-divide.ensures.1
    (sym (c.in_err-divide.ensures.fits
    ∙ ap (quotients_fit (width_of c.args.row.now) (number_of c.args.row.now)) c.number-by.ensures))

pub returns-clause-fits : goal.returns-clause-fits
returns-clause-fits c =
    sym (c.in_ok-divide.ensures.fits
    ∙ ap (quotients_fit (width_of c.args.row.now) (number_of c.args.row.now)) c.number-by.ensures)

pub returns-clause-ok : goal.returns-clause-ok
returns-clause-ok c = λ j b.
    c.in_ok-divide.ensures.ok.numbers j b
    ∙ ap (λ x. number_of c.args.row.now j /ℚ x) c.number-by.ensures
