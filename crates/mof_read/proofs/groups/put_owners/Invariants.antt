use Rattle.std.proofs.Common.{◌≡◌, drop}
use Rattle.mof_read.specs.Groups.{with_owners}
use Rattle.mof_read.proofs.groups.put_owners.Given as goal

abbrev pub invariant-loop-name : goal.invariant-loop-name
invariant-loop-name l =
    with_owners l.owners.entries (drop l.name-index l.names) l.group
    ≡ with_owners l.initial.owners.entries l.names l.group
