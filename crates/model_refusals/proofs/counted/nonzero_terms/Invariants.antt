use Rattle.std.proofs.Common.{◌≡◌, ◌≤◌, take, not, count_by}
use Rattle.ratio_core.specs.Rational.{rational_eq, zero_ℚ}
use Rattle.model_refusals.proofs.counted.nonzero_terms.Given as goal

abbrev pub invariant-loop-term : goal.invariant-loop-term
invariant-loop-term l = record {
  counted : l.count ≡ count_by (λ t. not (rational_eq t.coefficient zero_ℚ))
      (take l.term-index l.terms);
  few : l.count ≤ l.term-index;
}
