use Rattle.std.specs.Prelude.{[], ◌∷◌, ◌++◌}
use Rattle.std.proofs.Common.{ap, subst, sym, ◌∙◌}
use Rattle.named_aff.specs.Distinct.{HasDistinctNames}
use Rattle.relaxation.proofs.TermLemmas.{mapped_next, next_apart}
use Rattle.relaxation.specs.RelaxedEdits.{slack_term}
use Rattle.relaxation.proofs.edits.sum_terms.Goals as goal

pub push_term-requires : goal.push_term-requires
push_term-requires c =
    subst (λ ts. HasDistinctNames (ts ++ slack_term c.name-item.result ∷ []))
    (sym c.loop-name.invariant)
    (next_apart c.args.names.now c.loop-name.name-index c.name-item.result c.loop-name-test.true
    c.name-item.is c.requires)

pub loop-name-preserved : goal.loop-name-preserved
loop-name-preserved c =
    c.in_ok-push_term.ensures
    ∙ ap (λ ts. ts ++ slack_term c.name-item.result ∷ []) c.loop-name.invariant
    ∙ sym (mapped_next slack_term c.args.names.now c.loop-name.name-index c.name-item.result
    c.loop-name-test.true c.name-item.is)
