use Rattle.set_map.proofs.Folds.{DotSoFar}
use Rattle.set_map.proofs.numbers.dot.Given as goal

abbrev pub invariant-loop-i : goal.invariant-loop-i
invariant-loop-i l = DotSoFar l.a l.b l.i l.sum
