use Rattle.whole_rows.proofs.ClearingSteps.{AreLeftFrom}
use Rattle.whole_rows.proofs.clearing.clear_columns.Given as goal

abbrev pub invariant-loop-k : goal.invariant-loop-k
invariant-loop-k l = AreLeftFrom l.columns l.k l.fn.numbers l.numbers
