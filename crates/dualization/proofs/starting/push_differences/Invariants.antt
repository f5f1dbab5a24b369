use Rattle.dualization.proofs.PlaceLemmas.{DifferencesSoFar}
use Rattle.dualization.proofs.starting.push_differences.Given as goal

abbrev pub invariant-loop-i : goal.invariant-loop-i
invariant-loop-i l = DifferencesSoFar l.first l.second l.i l.fn.parts.items l.parts.items
