use Rattle.ratio_core.specs.Rational.{neg_ℚ}
use Rattle.tableau_core.specs.Row.{AllFit, IsChanged}
use Rattle.tableau_core.proofs.start.negate.Given as goal

abbrev pub invariant-loop-j : goal.invariant-loop-j
invariant-loop-j l = record {
  negated : IsChanged (λ _ x. neg_ℚ x) l.j l.initial.numbers l.numbers;
  all_fit : AllFit l.numbers;
}
