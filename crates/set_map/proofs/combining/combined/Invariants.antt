use Rattle.set_map.proofs.Folds.{CombinedSoFar}
use Rattle.set_map.proofs.combining.combined.Given as goal

abbrev pub invariant-loop-i : goal.invariant-loop-i
invariant-loop-i l = CombinedSoFar l.weights l.fs l.i l.sum
