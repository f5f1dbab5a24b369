use Rattle.std.proofs.Common.{map}
use Rattle.fresh_bridging.specs.ModelImage.{row_item}
use Rattle.model_bridging.proofs.InOrder.{RowsSoFar}
use Rattle.model_bridging.proofs.model_plan.plan_rows.Given as goal

abbrev pub invariant-loop-row : goal.invariant-loop-row
invariant-loop-row g l =
    RowsSoFar (g.R.Rewriter.means l.fn.rewriter) l.fn.standing (map row_item l.rows.items)
    (map row_item l.row-iterator) l.fn.plan l.plan
    (g.R.Rewriter.means l.rewriter) l.standing
