use Rattle.whole_rows.proofs.MarkSteps.{AreFirstMarked}
use Rattle.whole_rows.proofs.marks.mark_all.Given as goal

abbrev pub invariant-loop-j : goal.invariant-loop-j
invariant-loop-j l = AreFirstMarked l.j l.fn.marks l.marks
