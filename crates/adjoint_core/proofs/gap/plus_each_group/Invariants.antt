use Rattle.adjoint_core.proofs.GapSteps.{GroupsGap}
use Rattle.adjoint_core.proofs.gap.plus_each_group.Given as goal

abbrev pub invariant-loop-group : goal.invariant-loop-group
invariant-loop-group l =
    GroupsGap l.of_rows l.sum l.groups.items l.group-iterator l.fn.duals l.left
