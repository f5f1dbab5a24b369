use Rattle.std.proofs.Common.{◌≤◌, ◌+◌, drop, length, map}
use Rattle.fresh_bridging.specs.ModelImage.{group_item}
use Rattle.model_bridging.proofs.InOrder.{GroupsSoFar}
use Rattle.model_bridging.proofs.found.plan_found_groups.Given as goal

abbrev pub invariant-loop-group : goal.invariant-loop-group
invariant-loop-group g l = record {
  planned : GroupsSoFar (g.R.Rewriter.means l.fn.rewriter)
      (map group_item (map (λ x. x.now) l.groups))
      (map group_item (map (λ x. x.now) (drop l.group-index l.groups))) l.fn.plan l.plan
      l.entries.items (g.R.Rewriter.means l.rewriter);
  turns : g.R.Rewriter.turns l.rewriter + length l.fn.plan.nodes.items
      ≤ g.R.Rewriter.turns l.fn.rewriter + length l.plan.nodes.items;
}
