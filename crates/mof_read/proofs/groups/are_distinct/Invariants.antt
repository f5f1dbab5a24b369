use Rattle.std.proofs.Common.{◌≡◌, [], drop}
use Rattle.mof_read.specs.Groups.{are_new}
use Rattle.mof_read.proofs.groups.are_distinct.Given as goal

abbrev pub invariant-loop-name : goal.invariant-loop-name
invariant-loop-name l = are_new l.seen.keys (drop l.name-index l.names) ≡ are_new [] l.names
