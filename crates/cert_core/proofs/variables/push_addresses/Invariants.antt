use Rattle.std.proofs.Common.{◌≡◌, ◌++◌, take}
use Rattle.certificates.specs.Points.{addresses_of}
use Rattle.cert_core.proofs.variables.push_addresses.Given as goal

abbrev pub invariant-loop-var : goal.invariant-loop-var
invariant-loop-var l =
    l.addresses.items ≡ l.fn.addresses.items ++ addresses_of (take l.var-index l.vars)
