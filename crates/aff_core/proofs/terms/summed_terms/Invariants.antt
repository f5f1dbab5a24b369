use Rattle.std.proofs.Common.{◌+◌, ◌-◌, length}
use Rattle.aff_core.proofs.Summing.{IsSummedSoFar}
use Rattle.aff_core.proofs.terms.summed_terms.Given as goal

abbrev pub invariant-loop-i : goal.invariant-loop-i
invariant-loop-i g l = IsSummedSoFar g.met.K.Ord.total l.left l.right l.i l.j l.summed.items

abbrev pub decreases-loop-i : goal.decreases-loop-i
decreases-loop-i g l = (length l.left - l.i) + (length l.right - l.j)
