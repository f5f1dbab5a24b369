use Rattle.std.proofs.Common.{◌↔◌, IfSome, IsNone, ap, subst}
use Rattle.bridge_graph.specs.Hypergraph.{Hypergraph}
use Rattle.bridge_graph.specs.Tree.{IsLeastCost, IsTreeless}
use Rattle.item_core.specs.Kind.{kind_number}
use Rattle.fresh_bridging.specs.TheRules.{graph_of}
use Rattle.lazy_bridge.specs.Owned.{Owned, setting_in}
use Rattle.lazy_bridge.proofs.lazy.Lazy.cost.Goals as goal

pub returns-clause-none : goal.returns-clause-none
returns-clause-none g c =
    subst (λ (h : Hypergraph). IsNone c.cost.result ↔ IsTreeless h (kind_number c.args.kind))
    (ap (λ (o : Owned). graph_of (setting_in o)) c.self.view_is)
    c.cost.ensures.none

pub returns-clause-least : goal.returns-clause-least
returns-clause-least g c =
    subst (λ (h : Hypergraph). IfSome c.cost.result (IsLeastCost h (kind_number c.args.kind)))
    (ap (λ (o : Owned). graph_of (setting_in o)) c.self.view_is)
    c.cost.ensures.least
