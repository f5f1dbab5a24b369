use Rattle.std.proofs.Common.{sym, ap, subst, ◌∙◌}
use Rattle.aff_core.specs.Address.{address_cmp}
use Rattle.aff_core.specs.Rising.{HasDistinctKeys}
use Rattle.model_laws.specs.DistinctTerms.{distinct_terms, located_terms}
use Rattle.model_plans.proofs.located.affine.Goals as goal

pub gather-requires : goal.gather-requires
gather-requires c =
    let model = c.args.model.now.model in
    subst (HasDistinctKeys address_cmp) (sym (c.deref.ensures.value
    ∙ (c.in_ok-terms.ensures ∙ ap (located_terms model c.requires.consistent)
    c.as_slice.ensures.value))) (distinct_terms model c.requires.consistent
    c.args.func.now.terms c.requires.known.known c.as_slice.ensures.distinct)
