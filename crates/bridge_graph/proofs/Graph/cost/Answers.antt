use Rattle.bridge_graph.proofs.Choices.{no_cost, least_cost}
use Rattle.bridge_graph.proofs.Graph.cost.Goals as goal

pub returns-clause-none : goal.returns-clause-none
returns-clause-none g c =
    rw c.cost.ensures (no_cost c.args.self.now c.args.kind c.plan.result c.plan.ensures.plan)

pub returns-clause-least : goal.returns-clause-least
returns-clause-least g c =
    rw c.cost.ensures (least_cost c.args.self.now c.args.kind c.plan.result c.plan.ensures.plan)
