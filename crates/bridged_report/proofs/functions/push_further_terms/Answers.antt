use Rattle.std.proofs.Common.{◌∙◌, ◌∷◌, [], ◌++◌, ap, sym}
use Rattle.std.proofs.lemmas.List.{at_drop_more, at_drop_all}
use Rattle.std.proofs.lemmas.List.Folds.{flat_map-map}
use Rattle.report_core.specs.Words.{spaced}
use Rattle.bridged_report.specs.Functions.{term_text}
use Rattle.bridged_report.proofs.Pushes.{pushed_more, pushed_all, pushed_after}
use Rattle.bridged_report.proofs.functions.push_further_terms.Goals as goal

pub loop-term-preserved : goal.loop-term-preserved
loop-term-preserved c =
    pushed_more (λ t. spaced (term_text c.args.model.now.model t)) c.loop-term.draft _ _
    c.term-item.result c.loop-term.invariant (at_drop_more (λ ts. ts) c.args.terms.now
    c.loop-term.term-index c.term-item.result c.loop-term-test.true ∙ cc)
    (c.in_ok-push_term.ensures ∙ pushed_after c.loop-term.draft (32 ∷ []) _ c.in_ok-push.ensures)

pub returns : goal.returns
returns c =
    pushed_all (λ t. spaced (term_text c.args.model.now.model t)) c.loop-term.draft
    c.loop-term.invariant (at_drop_all (λ ts. ts) c.args.terms.now c.loop-term.term-index
    c.loop-term-test.false)
    ∙ ap (λ t. c.args.draft.now ++ t) (sym (flat_map-map spaced (term_text c.args.model.now.model)
    c.args.terms.now))
