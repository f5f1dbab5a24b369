use Rattle.std.proofs.Common.{subst, sym}
use Rattle.cert_core.specs.Variables.{Ascend}
use Rattle.certificates.specs.Points.{variables_of}
use Rattle.cert_core.proofs.Places.{ascend}
use Rattle.cert_core.proofs.variables.Variables.of.Goals as goal

pub invariant_of-result : goal.invariant_of-result
invariant_of-result c =
    subst Ascend (sym c.in_ok-addresses.ensures)
    (ascend (variables_of c.args.groups.now.items) c.requires)
