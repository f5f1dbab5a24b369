use Rattle.std.proofs.Common.{sym, subst, ◌∙◌}
use Rattle.named_aff.specs.Distinct.{HasDistinctNames, none_distinct}
use Rattle.named_aff.proofs.terms.NamedTerms.with_capacity.Goals as goal

pub invariant_of-result : goal.invariant_of-result
invariant_of-result c =
    subst HasDistinctNames (sym (c.from_vec.ensures ∙ c.in_ok-items.ensures.items)) none_distinct
