use Rattle.whole_rows.proofs.NotingSteps.{IsWordNoted}
use Rattle.whole_rows.proofs.TakingSteps.{TakenTo}
use Rattle.whole_rows.proofs.WordSteps.{IsWordLeft}
use Rattle.whole_rows.proofs.listed.take_word.Given as goal

abbrev pub invariant-loop-rest : goal.invariant-loop-rest
invariant-loop-rest l = record {
  noted : IsWordNoted l.source l.columns l.used l.start l.word l.rest l.kept;
  taken : IsWordLeft (TakenTo l.source) l.start l.rest l.fn.numbers l.numbers;
}

abbrev pub decreases-loop-rest : goal.decreases-loop-rest
decreases-loop-rest l = l.rest
