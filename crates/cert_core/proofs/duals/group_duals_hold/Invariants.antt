use Rattle.std.proofs.Common.{map}
use Rattle.set_core.specs.Membership.{Dual, DualFits}
use Rattle.certificates.specs.Points.{addresses_of}
use Rattle.cert_core.proofs.GroupSteps.{GroupsTested}
use Rattle.cert_core.proofs.duals.group_duals_hold.Given as goal

abbrev pub invariant-loop-group : goal.invariant-loop-group
invariant-loop-group l =
    GroupsTested (λ w g. DualFits g.set (map w (addresses_of g.vars)))
    (λ w g. Dual g.set (map w (addresses_of g.vars)))
    l.all l.groups.items l.group-iterator l.fn.duals l.left
