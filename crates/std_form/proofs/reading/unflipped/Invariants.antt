use Rattle.std.proofs.Common.{◌≡◌, ◌++◌, drop}
use Rattle.equality_form.specs.ReadBack.{unflipped}
use Rattle.std_form.proofs.reading.unflipped.Given as goal

abbrev pub invariant-loop-is_flipped : goal.invariant-loop-is_flipped
invariant-loop-is_flipped l =
    l.multipliers.items ++ unflipped (drop l.is_flipped-index l.flips) l.left
    ≡ unflipped l.flips l.y
