use Rattle.mapped_model.proofs.Making.{AreSoFar}
use Rattle.mapped_model.specs.Uses.{uses_in}
use Rattle.mapped_model.proofs.edits.row_edits.Given as goal

abbrev pub invariant-loop-i : goal.invariant-loop-i
invariant-loop-i l =
    AreSoFar l.model.model (uses_in l.model.model l.file) l.i l.edits.items
