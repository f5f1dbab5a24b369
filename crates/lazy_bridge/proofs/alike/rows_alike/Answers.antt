use Rattle.std.proofs.Common.{arith, sym, ◌∙◌}
use Rattle.aff_core.specs.Address.{Address}
use Rattle.lazy_bridge.proofs.Names.{all_alike, alike_more, any_lent}
use Rattle.lazy_bridge.specs.Mentioned.{row_names}
use Rattle.lazy_bridge.proofs.alike.rows_alike.Goals as goal

pub loop-place-preserved : goal.loop-place-preserved
loop-place-preserved c =
    alike_more {K = Address × Address} (λ r k. row_names r.now k.0 k.1) c.args.one.now
    c.args.other.now c.loop-place.place c.index-one-place.result c.index-other-place.result
    (omega arith) (omega arith) c.index-one-place.is c.index-other-place.is
    (λ k. c.row_alike.ensures c.if-not-row_alike.false k.0 k.1) c.loop-place.invariant

pub returns : goal.returns
returns c = λ t var at.
    any_lent (λ row. row_names row var at) (λ r. r.now) c.args.one.now
    ∙ all_alike {K = Address × Address} (λ r k. row_names r.now k.0 k.1) c.args.one.now
    c.args.other.now c.loop-place.place c.loop-place-test.false (omega arith)
    c.loop-place.invariant (var, at)
    ∙ sym (any_lent (λ row. row_names row var at) (λ r. r.now) c.args.other.now)
