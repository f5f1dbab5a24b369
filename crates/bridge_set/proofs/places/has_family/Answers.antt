use Rattle.std.proofs.Common.{arith, sym, ap, ◌∙◌}
use Rattle.item_core.specs.Edge.{family_eq}
use Rattle.bridge_set.proofs.Stands.{none_there, one_there}
use Rattle.bridge_set.proofs.places.has_family.Goals as goal

pub returns-then-eq : goal.returns-then-eq
returns-then-eq g c =
    one_there g.B.Bridge.state c.args.bridges.now c.loop-bridge.bridge-index
    c.bridge-item.result c.bridge-item.result c.args.family (omega arith) c.bridge-item.is
    (ap (family_eq c.args.family) (sym c.family.ensures.family) ∙ sym c.eq.ensures
    ∙ c.if-eq.true) c.loop-bridge.invariant

pub returns : goal.returns
returns g c =
    sym (none_there g.B.Bridge.state c.args.bridges.now c.loop-bridge.bridge-index
    c.args.family (omega arith) c.loop-bridge.invariant)
