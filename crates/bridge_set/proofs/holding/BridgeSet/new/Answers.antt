use Rattle.std.proofs.Common.{All, map, ap, subst, ◌∙◌}
use Rattle.bridge_face.specs.Law.{IsLawful}
use Rattle.fresh_bridging.specs.TheRules.{graph_of}
use Rattle.bridge_set.specs.Bridges.{families_of, setting_by}
use Rattle.bridge_set.proofs.Made.{sound_made}
use Rattle.bridge_set.proofs.holding.BridgeSet.new.Goals as goal

pub invariant_of-result : goal.invariant_of-result
invariant_of-result g c =
    let state = g.B.Bridge.state in
    sound_made c.args.table c.choices_of.result (map state c.args.bridges.items)
    c.graph_of-graph.result
    (c.graph_of-graph.ensures.graph
    ∙ ap (λ bs. graph_of (setting_by c.args.table (map state bs))) c.deref-2.ensures.value)
    c.requires.costs c.graph_of-graph.ensures.kinds c.choices_of.ensures.kinds
    c.choices_of.ensures.each
    (subst (λ bs. All IsLawful (families_of (map state bs))) c.deref.ensures.value
    c.ask_laws.ensures) c.requires.once
