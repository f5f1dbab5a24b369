use Rattle.std.proofs.lemmas.List.{get_or-set_other, get_or-set_same}
use Rattle.ratio_core.specs.Rational.{zero_ℚ}
use Rattle.tableau_core.proofs.RowSteps.{set_fits}
use Rattle.tableau_core.proofs.start.put_number.Goals as goal

pub returns-clause-here : goal.returns-clause-here
returns-clause-here c =
    get_or-set_same c.args.numbers.now c.args.j c.args.number zero_ℚ c.requires.within

pub returns-clause-others : goal.returns-clause-others
returns-clause-others c = λ k n.
    get_or-set_other c.args.numbers.now c.args.j k c.args.number zero_ℚ n

pub returns-clause-all_fit : goal.returns-clause-all_fit
returns-clause-all_fit c =
    set_fits c.args.numbers.now c.args.j c.args.number c.requires.all_fit c.requires.within
    c.num-fits.ensures.fits
