use Rattle.std.proofs.Common.{drop}
use Rattle.bridges_norm.proofs.Loops.{AddsAsAll}
use Rattle.bridges_norm.proofs.duals.sum.Given as goal

abbrev pub invariant-loop-number : goal.invariant-loop-number
invariant-loop-number l = AddsAsAll l.sum (drop l.number-index l.numbers) l.numbers
