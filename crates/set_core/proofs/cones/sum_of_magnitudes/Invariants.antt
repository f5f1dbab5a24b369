use Rattle.std.proofs.Common.{drop}
use Rattle.ratio_core.specs.Rational.{zero_ℚ}
use Rattle.set_core.proofs.Magnitudes.{IsAsAll}
use Rattle.set_core.proofs.cones.sum_of_magnitudes.Given as goal

-- what is left, from the sum so far, is as all of it is
abbrev pub invariant-loop-q : goal.invariant-loop-q
invariant-loop-q l = IsAsAll zero_ℚ l.sum l.v (drop l.q-index l.v)
