use Rattle.std.proofs.Common.{◌≡◌, take}
use Rattle.aff_core.specs.Terms.{negated_terms}
use Rattle.aff_core.proofs.terms.negated_terms.Given as goal

abbrev pub invariant-loop-key : goal.invariant-loop-key
invariant-loop-key g l = l.negated.items ≡ negated_terms (take l.key-index l.terms)
