use Rattle.whole_rows.specs.Numerators.{AreNumeratorsMade}
use Rattle.whole_rows.specs.Rows.{numerator_of}
use Rattle.whole_rows.proofs.clearing.copy_numbers.Given as goal

abbrev pub invariant-loop-j : goal.invariant-loop-j
invariant-loop-j l = AreNumeratorsMade (numerator_of l.row) l.j l.fn.numbers l.numbers
