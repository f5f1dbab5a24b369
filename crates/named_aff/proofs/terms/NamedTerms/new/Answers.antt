use Rattle.std.proofs.Common.{sym, subst}
use Rattle.named_aff.specs.Distinct.{HasDistinctNames, none_distinct}
use Rattle.named_aff.proofs.terms.NamedTerms.new.Goals as goal

pub invariant_of-result : goal.invariant_of-result
invariant_of-result c = subst HasDistinctNames (sym c.new.ensures) none_distinct
