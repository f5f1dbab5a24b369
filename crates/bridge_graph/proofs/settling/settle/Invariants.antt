-- What is settled is right, and n settled kinds cost at most what n steps can.
use Rattle.std.proofs.Common.{◌-◌, length}
use Rattle.bridge_graph.specs.Hypergraph.{hypergraph_of}
use Rattle.bridge_graph.specs.KindPlan.{ArePlansWithin}
use Rattle.bridge_graph.proofs.Trees.{IsSettling}
use Rattle.bridge_graph.proofs.Settled.{open_count, limit_of}
use Rattle.bridge_graph.proofs.settling.settle.Given as goal

abbrev pub invariant-loop-step : goal.invariant-loop-step
invariant-loop-step l = record {
  settling : IsSettling (hypergraph_of l.edges l.costs l.supported l.on) l.plans;
  within : ArePlansWithin l.plans (limit_of (length l.plans - open_count l.plans));
}

abbrev pub decreases-loop-step : goal.decreases-loop-step
decreases-loop-step l = open_count l.plans
