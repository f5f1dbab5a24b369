use Rattle.std.proofs.Common.{◌≡◌, length}
use Rattle.std.specs.Vec.Iter.{into_iter_items, into_iter_len}
use Rattle.model_load.proofs.Stepping.{MadeSoFar}
use Rattle.model_load.proofs.loading.make_all.Given as goal

abbrev pub invariant-loop-edit : goal.invariant-loop-edit
invariant-loop-edit l =
    MadeSoFar l.fn.model l.fn.edits.items l.undos.items l.model (into_iter_items l.edit-iterator)
    × (into_iter_len l.edit-iterator ≡ length (into_iter_items l.edit-iterator))
    × goal.iterator-loop-edit.can_next l.edit-iterator
    × goal.iterator-loop-edit.is_finite l.edit-iterator
