use Rattle.std.specs.Prelude.{◌≡◌, ◌+◌, ◌++◌, drop, map}
use Rattle.dual_model.specs.DualOf.{each_placed, group_groups}
use Rattle.dualization.specs.DualEdits.{edit_of_group}
use Rattle.dualization.proofs.groups.push_own_groups.Given as goal

abbrev pub invariant-loop-i : goal.invariant-loop-i
invariant-loop-i l =
    (l.edits.items ++ map edit_of_group (each_placed group_groups (l.i + 1) l.group-iterator)
    ≡ l.fn.edits.items ++ map edit_of_group (each_placed group_groups 1 l.groups.items))
    × (l.group-iterator ≡ drop l.i l.groups.items)
