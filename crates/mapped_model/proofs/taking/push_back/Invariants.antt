use Rattle.mapped_model.proofs.TakenSteps.{AreTaken}
use Rattle.mapped_model.proofs.taking.push_back.Given as goal

abbrev pub invariant-loop-i : goal.invariant-loop-i
invariant-loop-i l =
    AreTaken l.file.maps l.file.uses l.mapped l.i l.initial.duals.items l.duals.items
