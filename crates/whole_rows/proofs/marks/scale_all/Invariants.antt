use Rattle.whole_rows.specs.ColumnMarks.{IsRangeChanged}
use Rattle.whole_rows.proofs.WordSteps.{ScaledTo}
use Rattle.whole_rows.proofs.marks.scale_all.Given as goal

abbrev pub invariant-loop-j : goal.invariant-loop-j
invariant-loop-j l =
    IsRangeChanged (ScaledTo l.over l.fn.numbers) l.start l.j l.fn.numbers l.numbers
