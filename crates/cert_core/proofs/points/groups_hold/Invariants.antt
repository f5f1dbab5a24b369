use Rattle.aff_core.specs.FunctionLists.{evaluations}
use Rattle.set_core.specs.Membership.{MembershipFits}
use Rattle.certificates.specs.Points.{functions_of_group}
use Rattle.cert_core.specs.Holding.{FunctionsHold}
use Rattle.cert_core.specs.Readings.{one_of}
use Rattle.cert_core.proofs.GroupSteps.{GroupsTested}
use Rattle.cert_core.proofs.points.groups_hold.Given as goal

abbrev pub invariant-loop-group : goal.invariant-loop-group
invariant-loop-group l =
    GroupsTested
    (λ x g. MembershipFits g.set (evaluations (one_of l.reading) (functions_of_group g) x))
    (λ x g. FunctionsHold (one_of l.reading) g.set (functions_of_group g) x)
    l.all l.groups.items l.group-iterator l.fn.numbers l.left
