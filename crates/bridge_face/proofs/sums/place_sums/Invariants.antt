use Rattle.bridge_face.specs.ZippedLaws.{SummedTo}
use Rattle.bridge_face.proofs.sums.place_sums.Given as goal

abbrev pub invariant-loop-n : goal.invariant-loop-n
invariant-loop-n l = SummedTo l.n l.first l.second l.sums.items
