use Rattle.whole_rows.proofs.ListedDividingSteps.{IsDividedAt}
use Rattle.whole_rows.proofs.dividing.divide_numbers.Given as goal

abbrev pub invariant-loop-k : goal.invariant-loop-k
invariant-loop-k l = IsDividedAt l.by l.columns l.k l.fn.numbers l.numbers
