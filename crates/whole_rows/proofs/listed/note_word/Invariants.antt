use Rattle.whole_rows.proofs.NotingSteps.{IsWordNoted}
use Rattle.whole_rows.proofs.listed.note_word.Given as goal

abbrev pub invariant-loop-rest : goal.invariant-loop-rest
invariant-loop-rest l = IsWordNoted l.numbers l.columns l.used l.start l.word l.rest l.kept

abbrev pub decreases-loop-rest : goal.decreases-loop-rest
decreases-loop-rest l = l.rest
