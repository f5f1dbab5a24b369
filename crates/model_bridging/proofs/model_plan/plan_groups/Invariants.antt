use Rattle.std.proofs.Common.{map}
use Rattle.fresh_bridging.specs.ModelImage.{group_item}
use Rattle.model_bridging.proofs.InOrder.{GroupsSoFar}
use Rattle.model_bridging.proofs.model_plan.plan_groups.Given as goal

abbrev pub invariant-loop-group : goal.invariant-loop-group
invariant-loop-group g l =
    GroupsSoFar (g.R.Rewriter.means l.fn.rewriter) (map group_item l.groups.items)
    (map group_item l.group-iterator) l.fn.plan l.plan l.entries.items
    (g.R.Rewriter.means l.rewriter)
