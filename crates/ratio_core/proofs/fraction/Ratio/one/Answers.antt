use Rattle.std.proofs.Common.{arith, pos}
use Rattle.ratio_core.specs.Rational.{one_ℚ}
use Rattle.ratio_core.proofs.Kept.{reduce_whole, whole_stored}
use Rattle.ratio_core.proofs.fraction.Ratio.one.Goals as goal

pub invariant_of-result : goal.invariant_of-result
invariant_of-result c = whole_stored (pos 1) (omega arith)

pub returns : goal.returns
unfolding one_ℚ
returns c = reduce_whole (pos 1)
