use Rattle.std.specs.Prelude.{◌≡◌}
use Rattle.relaxed_model.specs.Relaxed.{free_names}
use Rattle.relaxation.proofs.names.free_names.Given as goal

abbrev pub invariant-loop-i : goal.invariant-loop-i
invariant-loop-i l = l.names.items ≡ free_names l.model.model l.count 1 l.i
