use Rattle.tableau_core.proofs.StartSteps.{AreSummed}
use Rattle.tableau_core.proofs.start.first_prices.Given as goal

abbrev pub invariant-loop-i : goal.invariant-loop-i
invariant-loop-i l = AreSummed l.m l.c l.matrix l.i l.prices.items
