use Rattle.whole_rows.specs.Numerators.{AreSized}
use Rattle.whole_rows.proofs.ListedDividingSteps.{numbers_at}
use Rattle.whole_rows.proofs.dividing.greatest_of.Given as goal

abbrev pub invariant-loop-k : goal.invariant-loop-k
invariant-loop-k l = AreSized (numbers_at l.columns l.numbers) l.k l.size l.greatest
