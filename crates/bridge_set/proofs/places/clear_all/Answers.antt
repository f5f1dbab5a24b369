use Rattle.std.proofs.Common.{arith}
use Rattle.std.specs.Prelude.{slice_index_or}
use Rattle.std.proofs.Common.{refl}
use Rattle.bridge_set.proofs.Stands.{next_gone}
use Rattle.bridge_set.proofs.places.clear_all.Goals as goal

pub loop-bridge-preserved : goal.loop-bridge-preserved
loop-bridge-preserved g c =
    next_gone g.B.Bridge.state c.args.bridges.now c.loop-bridge.bridges
    c.loop-bridge.bridge-index
    (slice_index_or c.loop-bridge.bridges c.loop-bridge.bridge-index c.bridge-item.result)
    c.bridge-item.result c.let_all_go.new.self (omega arith) refl c.let_all_go.ensures (omega arith)
    c.loop-bridge.invariant
