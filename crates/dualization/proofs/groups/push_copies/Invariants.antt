use Rattle.std.specs.Prelude.{◌≡◌, ◌++◌, take}
use Rattle.dualization.proofs.groups.push_copies.Given as goal

abbrev pub invariant-loop-name : goal.invariant-loop-name
invariant-loop-name l = l.names.items ≡ l.fn.names.items ++ take l.name-index l.added
