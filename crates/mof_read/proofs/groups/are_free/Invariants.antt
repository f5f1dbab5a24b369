use Rattle.std.proofs.Common.{◌≡◌, drop}
use Rattle.std.specs.List.{list_all}
use Rattle.mof_read.specs.Groups.{is_free}
use Rattle.mof_read.proofs.groups.are_free.Given as goal

abbrev pub invariant-loop-name : goal.invariant-loop-name
invariant-loop-name l =
    list_all (is_free l.owners.entries) (drop l.name-index l.names)
    ≡ list_all (is_free l.owners.entries) l.names
