use Rattle.cert_core.proofs.GroupSteps.{GroupsSummed}
use Rattle.cert_core.proofs.gap.plus_groups.Given as goal

abbrev pub invariant-loop-group : goal.invariant-loop-group
invariant-loop-group l =
    GroupsSummed l.of_rows l.sum l.groups.items l.group-iterator l.fn.duals l.left
