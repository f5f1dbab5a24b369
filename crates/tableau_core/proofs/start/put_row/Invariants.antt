use Rattle.std.proofs.Common.{drop}
use Rattle.tableau_core.specs.Row.{AllFit}
use Rattle.tableau_core.specs.TermSteps.{IsDoneTo}
use Rattle.tableau_core.proofs.start.put_row.Given as goal

abbrev pub invariant-loop-term : goal.invariant-loop-term
invariant-loop-term l = record {
  done : IsDoneTo (λ x t. t) l.from l.c l.terms (drop l.term-index l.terms) l.initial.numbers
      l.numbers;
  all_fit : AllFit l.numbers;
}
