use Rattle.std.proofs.Common.{cond, drop}
use Rattle.ratio_core.specs.Rational.{neg_ℚ}
use Rattle.sparse_ratios.specs.Terms.{number_at}
use Rattle.sparse_lists.specs.AcrossLaws.{IsAcrossTo}
use Rattle.sparse_lists.proofs.across.put_across.Given as goal

abbrev pub invariant-loop-term : goal.invariant-loop-term
invariant-loop-term l =
    IsAcrossTo l.place (λ b. cond l.negated (neg_ℚ (number_at l.terms b)) (number_at l.terms b))
    l.terms (drop l.term-index l.terms) l.initial.lists l.lists
