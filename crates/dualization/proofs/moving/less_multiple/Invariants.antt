use Rattle.dualization.proofs.PlaceLemmas.{MultipleSoFar}
use Rattle.dualization.proofs.moving.less_multiple.Given as goal

abbrev pub invariant-loop-i : goal.invariant-loop-i
invariant-loop-i l = MultipleSoFar l.by l.numbers l.others l.i l.left.items
