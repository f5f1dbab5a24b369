use Rattle.std.proofs.Common.{drop}
use Rattle.ratio_core.specs.Rational.{◌+ℚ◌}
use Rattle.tableau_core.specs.Row.{AllFit}
use Rattle.tableau_core.specs.TermSteps.{AreFitTo, IsDoneTo}
use Rattle.tableau_core.proofs.start.add_row.Given as goal

abbrev pub invariant-loop-term : goal.invariant-loop-term
invariant-loop-term l = record {
  done : IsDoneTo ◌+ℚ◌ l.from l.c l.terms (drop l.term-index l.terms) l.initial.sums l.sums;
  fit : AreFitTo l.from l.c l.terms (drop l.term-index l.terms) l.initial.sums;
  all_fit : AllFit l.sums;
}
