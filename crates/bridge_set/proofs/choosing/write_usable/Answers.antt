use Rattle.std.proofs.Common.{false, map, arith}
use Rattle.std.proofs.lemmas.List.{length-map}
use Rattle.item_core.specs.declared.edge.EdgeEntry.{EdgeEntry}
use Rattle.fresh_bridging.specs.TheRules.{is_usable}
use Rattle.bridge_set.specs.Bridges.{setting_by}
use Rattle.bridge_set.proofs.Choices.{same_by_place}
use Rattle.bridge_set.proofs.choosing.write_usable.Goals as goal

pub returns : goal.returns
returns g c =
    let test = λ (row : EdgeEntry). is_usable
    (setting_by c.args.table.now (map g.B.Bridge.state c.args.bridges.now)) row.family in
    same_by_place false c.loop-n.on (map test c.args.rows.now)
    (omega (arith, length-map c.args.rows.now test))
    (λ k lt. c.loop-n.invariant k (omega (arith, lt)))
