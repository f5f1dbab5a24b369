use Rattle.std.proofs.Common.{pos}
use Rattle.whole_rows.specs.Numerators.{AreNumeratorsMade}
use Rattle.whole_rows.proofs.clearing.clear_numbers.Given as goal

abbrev pub invariant-loop-j : goal.invariant-loop-j
invariant-loop-j l = AreNumeratorsMade (λ _. pos 0) l.j l.fn.numbers l.numbers
