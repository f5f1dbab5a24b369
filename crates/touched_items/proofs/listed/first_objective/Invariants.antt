use Rattle.std.proofs.Common.{◌≡◌, drop}
use Rattle.touched_items.specs.FirstChanges.{first_objective}
use Rattle.touched_items.proofs.listed.first_objective.Given as goal

abbrev pub invariant-loop-undo : goal.invariant-loop-undo
invariant-loop-undo l = first_objective (drop l.undo-index l.undos) ≡ first_objective l.undos
