use Rattle.std.proofs.Common.{map, subst, sym}
use Rattle.mof_laws.specs.ReadBack.{named_term}
use Rattle.mof_write.specs.Written.{naming}
use Rattle.named_aff.specs.Distinct.{HasDistinctNames}
use Rattle.row_again.proofs.Naming.{terms_distinct}
use Rattle.row_again.proofs.function.named_affine.Goals as goal

pub named_terms-requires-clause-apart : goal.named_terms-requires-clause-apart
named_terms-requires-clause-apart c =
    let model = c.args.model.now.model in
    subst (λ ts. HasDistinctNames (map (named_term (naming model)) ts)) (sym c.terms.ensures.all)
    (terms_distinct model c.rows-valid.ensures.valid.consistent c.args.func.now c.requires)
