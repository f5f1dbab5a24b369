use Rattle.std.specs.Prelude.{◌∷◌, [], ◌++◌, filter, get_or, take}
use Rattle.std.proofs.Common.{sym, ap, ◌∙◌}
use Rattle.std.proofs.lemmas.List.{take_more}
use Rattle.std.proofs.lemmas.List.Elements.{filter-append}
use Rattle.aff_core.specs.Terms.{is_nonzero}
use Rattle.aff_core.proofs.terms.nonzero_terms.Goals as goal

pub loop-key-preserved : goal.loop-key-preserved
loop-key-preserved g c =
    let terms = c.args.terms.now in
    let place = c.loop-key.key-index in
    let item = c.loop-key-item.result in
    c.in_ok-push_nonzero.ensures
    ∙ (λ i. c.loop-key.invariant i ++ filter is_nonzero (c.loop-key-item.is i ∷ []))
    ∙ sym (filter-append is_nonzero (take place terms) (get_or terms place item ∷ []))
    ∙ ap (filter is_nonzero) (sym (take_more terms place item c.loop-key-test.true))
