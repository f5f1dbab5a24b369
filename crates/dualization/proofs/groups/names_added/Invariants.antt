use Rattle.std.specs.Prelude.{◌≡◌, ◌++◌, drop, flat_map}
use Rattle.dualization.specs.DualEdits.{names_added}
use Rattle.dualization.proofs.groups.names_added.Given as goal

abbrev pub invariant-loop-edit : goal.invariant-loop-edit
invariant-loop-edit l =
    l.names.items ++ flat_map names_added (drop l.edit-index l.edits) ≡ flat_map names_added l.edits
