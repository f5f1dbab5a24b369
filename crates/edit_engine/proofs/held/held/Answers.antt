use Rattle.lazy_bridge.specs.ReadableLaws.{readable_here}
use Rattle.edit_engine.proofs.Shown.{read_here}
use Rattle.edit_engine.proofs.held.held.Goals as goal

pub returns : goal.returns
returns g c =
    read_here c.args.lazy.now c.args.model.now.model c.map.result.now c.solver.result.now
    c.bridged.result c.map.ensures.map c.solver.ensures
    (readable_here c.args.lazy.now c.args.model.now.model c.table-native.ensures.sound
    c.table-native.ensures.native c.requires)
    c.bridged.ensures.read
