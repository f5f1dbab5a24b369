use Rattle.std.specs.Prelude.{◌≡◌, take}
use Rattle.rational_laws.specs.Dot.{negated}
use Rattle.dualization.proofs.rows.negated.Given as goal

abbrev pub invariant-loop-number : goal.invariant-loop-number
invariant-loop-number l = l.all.items ≡ negated (take l.number-index l.numbers)
