use Rattle.std.specs.Prelude.{◌≡◌, ◌++◌, map, take}
use Rattle.relaxation.specs.RelaxedEdits.{edit_of_slack}
use Rattle.relaxation.proofs.edits.push_groups.Given as goal

abbrev pub invariant-loop-name : goal.invariant-loop-name
invariant-loop-name l =
    l.edits.items ≡ l.fn.edits.items ++ map edit_of_slack (take l.name-index l.names)
