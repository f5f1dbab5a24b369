use Rattle.bridge_graph.proofs.Steps.{IsBestBelow}
use Rattle.bridge_graph.proofs.settling.cheapest.Given as goal

abbrev pub invariant-loop-edge : goal.invariant-loop-edge
invariant-loop-edge l = IsBestBelow l.edges l.costs l.on l.plans l.edge l.best
