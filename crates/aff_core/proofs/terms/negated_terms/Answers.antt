use Rattle.std.specs.Prelude.{◌∷◌, [], ◌++◌}
use Rattle.std.proofs.Common.{sym, ◌∙◌}
use Rattle.map_laws.specs.LoopLaws.{map-take_more}
use Rattle.ratio_core.specs.Rational.{neg_ℚ}
use Rattle.aff_core.proofs.terms.negated_terms.Goals as goal

pub loop-key-preserved : goal.loop-key-preserved
loop-key-preserved g c =
    let item = c.loop-key-item.result in
    c.in_ok-push.ensures.items
    ∙ (λ i. c.loop-key.invariant i ++ (item.0, c.neg.ensures i) ∷ [])
    ∙ sym (map-take_more (λ t. (t.0, neg_ℚ t.1)) c.args.terms.now c.loop-key.key-index item
    c.loop-key-item.is c.loop-key-test.true)
