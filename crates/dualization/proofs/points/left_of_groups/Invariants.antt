use Rattle.std.proofs.Common.{◌≡◌, ◌+◌}
use Rattle.dual_model.specs.GroupRowLaws.{own_total}
use Rattle.dualization.proofs.points.left_of_groups.Given as goal

abbrev pub invariant-loop-group : goal.invariant-loop-group
invariant-loop-group l =
    l.left + own_total l.groups.items ≡ l.count + own_total l.group-iterator
