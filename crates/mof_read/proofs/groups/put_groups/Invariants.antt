use Rattle.std.proofs.Common.{◌≡◌, ◌++◌}
use Rattle.mof_read.specs.Groups.{in_order}
use Rattle.mof_read.proofs.groups.put_groups.Given as goal

abbrev pub invariant-loop-name : goal.invariant-loop-name
invariant-loop-name l =
    l.edits.items ++ in_order l.owners.entries l.left.items l.name-iterator
    ≡ l.fn.edits.items ++ in_order l.owners.entries l.fn.left.items l.fn.variables.keys
