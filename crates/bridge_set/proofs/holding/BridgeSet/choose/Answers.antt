use Rattle.std.proofs.Common.{map, ap, ◌∙◌}
use Rattle.fresh_bridging.specs.TheRules.{graph_of}
use Rattle.bridge_set.specs.Bridges.{setting_by}
use Rattle.bridge_set.proofs.Made.{sound_made}
use Rattle.bridge_set.proofs.holding.BridgeSet.choose.Goals as goal

pub invariant_of-self : goal.invariant_of-self
invariant_of-self g c =
    let state = g.B.Bridge.state in
    sound_made c.args.table c.choices_of-self-inside.result (map state c.self.inside.bridges.items)
    c.graph_of-graph.result
    (c.graph_of-graph.ensures.graph
    ∙ ap (λ bs. graph_of (setting_by c.args.table (map state bs))) c.deref.ensures.value)
    c.requires c.graph_of-graph.ensures.kinds c.choices_of-self-inside.ensures.kinds
    c.choices_of-self-inside.ensures.each c.self.invariant.laws c.self.invariant.once

pub returns-clause-sound : goal.returns-clause-sound
returns-clause-sound g c =
    let state = g.B.Bridge.state in
    (sound_made c.args.table c.choices_of-self-inside.result
    (map state c.self.inside.bridges.items) c.graph_of-graph.result
    (c.graph_of-graph.ensures.graph
    ∙ ap (λ bs. graph_of (setting_by c.args.table (map state bs))) c.deref.ensures.value)
    c.requires c.graph_of-graph.ensures.kinds c.choices_of-self-inside.ensures.kinds
    c.choices_of-self-inside.ensures.each c.self.invariant.laws c.self.invariant.once).sound
