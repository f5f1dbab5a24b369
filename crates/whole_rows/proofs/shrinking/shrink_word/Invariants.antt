use Rattle.whole_rows.proofs.WordSteps.{IsWordLeft, ShrunkTo}
use Rattle.whole_rows.proofs.shrinking.shrink_word.Given as goal

abbrev pub invariant-loop-rest : goal.invariant-loop-rest
invariant-loop-rest l =
    IsWordLeft (ShrunkTo l.over l.by l.step l.common l.fn.numbers) l.start l.rest l.fn.numbers
    l.numbers

abbrev pub decreases-loop-rest : goal.decreases-loop-rest
decreases-loop-rest l = l.rest
