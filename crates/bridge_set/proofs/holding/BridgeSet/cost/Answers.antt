use Rattle.std.proofs.Common.{◌↔◌, IfSome, IsNone, ap, subst, ◌∙◌}
use Rattle.bridge_graph.specs.Hypergraph.{Hypergraph}
use Rattle.bridge_graph.specs.Tree.{IsLeastCost, IsTreeless}
use Rattle.item_core.specs.Kind.{kind_number}
use Rattle.fresh_bridging.specs.TheRules.{graph_of}
use Rattle.bridge_set.specs.Bridges.{Bridges, setting_of}
use Rattle.bridge_set.proofs.holding.BridgeSet.cost.Goals as goal

pub returns-clause-none : goal.returns-clause-none
returns-clause-none g c =
    subst (λ (h : Hypergraph). IsNone c.cost.result ↔ IsTreeless h (kind_number c.args.kind))
    (c.self.invariant.graph_is ∙ ap (λ (b : Bridges). graph_of (setting_of b)) c.self.view_is)
    c.cost.ensures.none

pub returns-clause-least : goal.returns-clause-least
returns-clause-least g c =
    subst (λ (h : Hypergraph). IfSome c.cost.result (IsLeastCost h (kind_number c.args.kind)))
    (c.self.invariant.graph_is ∙ ap (λ (b : Bridges). graph_of (setting_of b)) c.self.view_is)
    c.cost.ensures.least
