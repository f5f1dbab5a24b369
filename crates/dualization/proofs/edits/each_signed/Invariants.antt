use Rattle.std.specs.Prelude.{◌≡◌, map, take}
use Rattle.dual_model.specs.DualOf.{signed}
use Rattle.dualization.proofs.edits.each_signed.Given as goal

abbrev pub invariant-loop-number : goal.invariant-loop-number
invariant-loop-number l = l.all.items ≡ map (signed l.sense) (take l.number-index l.numbers)
