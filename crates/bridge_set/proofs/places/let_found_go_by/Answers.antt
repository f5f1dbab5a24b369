use Rattle.std.proofs.Common.{arith, map, refl}
use Rattle.std.specs.Prelude.{slice_index_or}
use Rattle.std.proofs.lemmas.List.{length-map}
use Rattle.bridge_set.proofs.Released.{long_kept, next_released, released_to_all, released_to_none}
use Rattle.bridge_set.proofs.places.let_found_go_by.Goals as goal

pub loop-bridge-init : goal.loop-bridge-init
loop-bridge-init g c =
    released_to_none c.args.found.now (map g.B.Bridge.state c.args.bridges.now)

pub loop-bridge-preserved : goal.loop-bridge-preserved
loop-bridge-preserved g c =
    next_released g.B.Bridge.state c.args.found.now c.args.bridges.now c.loop-bridge.bridges
    c.loop-bridge.bridge-index
    (slice_index_or c.loop-bridge.bridges c.loop-bridge.bridge-index c.bridge-item.result)
    c.bridge-item.result c.let_items_go.new.bridge (omega arith) refl c.let_items_go.ensures
    (omega arith) c.loop-bridge.invariant

pub returns : goal.returns
returns g c =
    let state = g.B.Bridge.state in
    let old = c.args.bridges.now in
    released_to_all c.args.found.now (map state old) (map state c.loop-bridge.bridges)
    c.loop-bridge.bridge-index
    (omega (
      arith,
      length-map old state,
      long_kept (map state old),
      c.loop-bridge-test.false,
      c.loop-bridge.auto.bridges,
    )) c.loop-bridge.invariant
