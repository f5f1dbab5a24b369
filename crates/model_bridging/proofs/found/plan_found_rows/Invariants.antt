use Rattle.std.proofs.Common.{◌≤◌, ◌+◌, drop, length, map}
use Rattle.fresh_bridging.specs.ModelImage.{row_item}
use Rattle.model_bridging.proofs.InOrder.{RowsSoFar}
use Rattle.model_bridging.proofs.found.plan_found_rows.Given as goal

abbrev pub invariant-loop-row : goal.invariant-loop-row
invariant-loop-row g l = record {
  planned : RowsSoFar (g.R.Rewriter.means l.fn.rewriter) l.fn.standing
      (map row_item (map (λ x. x.now) l.rows))
      (map row_item (map (λ x. x.now) (drop l.row-index l.rows))) l.fn.plan l.plan
      (g.R.Rewriter.means l.rewriter) l.standing;
  turns : g.R.Rewriter.turns l.rewriter + length l.fn.plan.nodes.items
      ≤ g.R.Rewriter.turns l.fn.rewriter + length l.plan.nodes.items;
}
