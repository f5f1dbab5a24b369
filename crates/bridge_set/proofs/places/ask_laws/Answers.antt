use Rattle.std.proofs.Common.{arith, subst}
use Rattle.bridge_face.specs.Law.{IsLawful}
use Rattle.bridge_set.proofs.Stands.{next_lawful}
use Rattle.bridge_set.proofs.places.ask_laws.Goals as goal

pub loop-bridge-preserved : goal.loop-bridge-preserved
loop-bridge-preserved g c =
    next_lawful g.B.Bridge.state c.args.bridges.now c.loop-bridge.bridge-index
    c.bridge-item.result (omega arith) c.bridge-item.is
    (subst IsLawful c.family-lawful.ensures.family c.family-lawful.ensures.lawful)
    c.loop-bridge.invariant
