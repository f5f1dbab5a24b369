use Rattle.whole_rows.proofs.JoiningSteps.{AreWordsJoined}
use Rattle.whole_rows.proofs.marks.join_marks.Given as goal

abbrev pub invariant-loop-n : goal.invariant-loop-n
invariant-loop-n l = AreWordsJoined l.words l.n l.others l.fn.marks l.marks
