use Rattle.whole_rows.specs.Numerators.{DividesAll}
use Rattle.whole_rows.proofs.ListedDividingSteps.{numbers_at}
use Rattle.whole_rows.proofs.dividing.common_of.Given as goal

abbrev pub invariant-loop-k : goal.invariant-loop-k
invariant-loop-k l = DividesAll (numbers_at l.columns l.numbers) l.k l.size l.common
