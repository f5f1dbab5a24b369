use Rattle.std.proofs.Common.{◌≡◌, length}
use Rattle.bridge_tests.proofs.duals.numbers.Given as goal

abbrev pub invariant-loop-n : goal.invariant-loop-n
invariant-loop-n l = length l.numbers.items ≡ l.n
