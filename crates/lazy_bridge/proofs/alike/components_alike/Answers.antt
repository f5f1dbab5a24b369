use Rattle.std.proofs.Common.{arith}
use Rattle.lazy_bridge.proofs.Names.{all_alike, alike_more}
use Rattle.user_model.specs.Functions.{has_term}
use Rattle.lazy_bridge.proofs.alike.components_alike.Goals as goal

pub loop-place-preserved : goal.loop-place-preserved
loop-place-preserved c =
    alike_more (λ f v. has_term v f) c.args.one.now c.args.other.now c.loop-place.place
    c.index-one-place.result c.index-other-place.result (omega arith) (omega arith)
    c.index-one-place.is c.index-other-place.is
    (c.terms_alike.ensures c.if-not-terms_alike.false) c.loop-place.invariant

pub returns : goal.returns
returns c = λ t.
    all_alike (λ f v. has_term v f) c.args.one.now c.args.other.now c.loop-place.place
    c.loop-place-test.false (omega arith) c.loop-place.invariant
