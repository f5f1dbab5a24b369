-- What is left gives what all gives, and the total stays small.
use Rattle.std.proofs.Common.{◌≡◌, ◌+◌, ◌*◌, ◌^◌, ◌≤◌, drop}
use Rattle.bridge_graph.specs.Hypergraph.{children_of}
use Rattle.bridge_graph.specs.Candidate.{with_children}
use Rattle.bridge_graph.proofs.settling.total.Given as goal

abbrev pub invariant-loop-kind : goal.invariant-loop-kind
invariant-loop-kind l = record {
  rest : with_children l.plans l.total (drop l.kind-index (children_of l.row))
      ≡ with_children l.plans l.cost (children_of l.row);
  small : l.total ≤ l.cost + l.kind-index * 2 ^ 120;
}
