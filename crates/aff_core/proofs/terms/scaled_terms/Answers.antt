use Rattle.std.specs.Prelude.{◌∷◌, [], ◌++◌, filter, take}
use Rattle.std.proofs.Common.{sym, ap, subst, ◌∙◌}
use Rattle.std.proofs.lemmas.List.Elements.{All-more, filter-append}
use Rattle.map_laws.specs.LoopLaws.{map-take_more}
use Rattle.ratio_core.specs.Rational.{◌*ℚ◌, Fits}
use Rattle.aff_core.specs.Terms.{is_nonzero, times}
use Rattle.aff_core.proofs.terms.scaled_terms.Goals as goal

pub loop-key-preserved : goal.loop-key-preserved
loop-key-preserved g c =
    let so_far = c.loop-key.invariant in
    let item = c.loop-key-item.result in
    let by = c.args.by.now in
    let before = take c.loop-key.key-index c.args.terms.now in
    record {
      items = c.in_ok-push_nonzero.ensures
          ∙ (λ i. so_far.items i ++ filter is_nonzero
          ((item.0, c.in_ok-product.ensures.exact.1 i) ∷ []))
          ∙ sym (filter-append is_nonzero (times by before) ((item.0, by *ℚ item.1) ∷ []))
          ∙ ap (filter is_nonzero) (sym (map-take_more (λ t. (t.0, by *ℚ t.1)) c.args.terms.now
          c.loop-key.key-index item c.loop-key-item.is c.loop-key-test.true));
      fit = All-more (λ t. Fits (by *ℚ t.1)) c.args.terms.now c.loop-key.key-index item
          c.loop-key-test.true so_far.fit (subst (λ t. Fits (by *ℚ t.1)) c.loop-key-item.is
          c.in_ok-product.ensures.exact.0);
    }
