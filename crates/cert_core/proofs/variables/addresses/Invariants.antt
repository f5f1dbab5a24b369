use Rattle.std.proofs.Common.{◌≡◌, ◌++◌}
use Rattle.certificates.specs.Points.{all_addresses}
use Rattle.cert_core.proofs.variables.addresses.Given as goal

abbrev pub invariant-loop-group : goal.invariant-loop-group
invariant-loop-group l =
    l.addresses.items ++ all_addresses l.group-iterator ≡ all_addresses l.groups.items
