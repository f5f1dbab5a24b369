use Rattle.std.specs.Prelude.{◌≡◌}
use Rattle.dual_model.specs.DualOf.{part_names}
use Rattle.dualization.proofs.names.part_names.Given as goal

abbrev pub invariant-loop-i : goal.invariant-loop-i
invariant-loop-i l = l.names.items ≡ part_names l.letter l.item 1 l.i
