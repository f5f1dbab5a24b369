use Rattle.std.proofs.Common.{◌≡◌, ◌≤◌, ◌+◌, ◌*◌, length}
use Rattle.std.specs.Vec.Iter.{into_iter_items, into_iter_len}
use Rattle.bridge_plan.specs.InTurn.{EachSoFar, InSoFar}
use Rattle.bridge_plan.proofs.planning.+planning.Given as goal

abbrev pub decreases-plan_each : goal.decreases-plan_each
decreases-plan_each g l = 3 * l.levels + 2

abbrev pub decreases-plan_in : goal.decreases-plan_in
decreases-plan_in g l = 3 * l.levels + 2

abbrev pub decreases-plan_item : goal.decreases-plan_item
decreases-plan_item g l = 3 * l.levels + 1

abbrev pub decreases-plan_node : goal.decreases-plan_node
decreases-plan_node g l = 3 * l.levels

abbrev pub invariant-plan_each-loop-group : goal.invariant-plan_each-loop-group
invariant-plan_each-loop-group g l =
    EachSoFar (g.R.Rewriter.means l.fn.rewriter) l.levels l.fn.groups
    (into_iter_items l.group-iterator) l.fn.plan l.plan l.fn.entries.items l.entries.items
    (g.R.Rewriter.means l.rewriter)
    × (into_iter_len l.group-iterator ≡ length (into_iter_items l.group-iterator))
    × (goal.iterator-plan_each-loop-group g).can_next l.group-iterator
    × (goal.iterator-plan_each-loop-group g).is_finite l.group-iterator
    × (g.R.Rewriter.turns l.rewriter + length l.fn.plan.nodes.items
    ≤ g.R.Rewriter.turns l.fn.rewriter + length l.plan.nodes.items)

abbrev pub invariant-plan_in-loop-item : goal.invariant-plan_in-loop-item
invariant-plan_in-loop-item g l =
    InSoFar (g.R.Rewriter.means l.fn.rewriter) l.levels l.fn.standing l.fn.items.items
    (into_iter_items l.item-iterator) l.fn.plan l.plan
    (g.R.Rewriter.means l.rewriter) l.standing
    × (into_iter_len l.item-iterator ≡ length (into_iter_items l.item-iterator))
    × (goal.iterator-plan_in-loop-item g).can_next l.item-iterator
    × (goal.iterator-plan_in-loop-item g).is_finite l.item-iterator
    × (g.R.Rewriter.turns l.rewriter + length l.fn.plan.nodes.items
    ≤ g.R.Rewriter.turns l.fn.rewriter + length l.plan.nodes.items)
