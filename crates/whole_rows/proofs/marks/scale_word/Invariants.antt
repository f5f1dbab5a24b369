use Rattle.whole_rows.proofs.WordSteps.{IsWordLeft, ScaledTo}
use Rattle.whole_rows.proofs.marks.scale_word.Given as goal

abbrev pub invariant-loop-rest : goal.invariant-loop-rest
invariant-loop-rest l =
    IsWordLeft (ScaledTo l.over l.fn.numbers) l.start l.rest l.fn.numbers l.numbers

abbrev pub decreases-loop-rest : goal.decreases-loop-rest
decreases-loop-rest l = l.rest
