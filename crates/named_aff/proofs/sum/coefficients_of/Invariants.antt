use Rattle.std.proofs.Common.{◌≡◌, ◌++◌, drop}
use Rattle.named_aff.specs.Entries.{terms_in}
use Rattle.named_aff.proofs.sum.coefficients_of.Given as goal

abbrev pub invariant-loop-term : goal.invariant-loop-term
invariant-loop-term l = terms_in l.coefficients.entries ++ drop l.term-index l.terms ≡ l.terms
