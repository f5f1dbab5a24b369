use Rattle.std.proofs.Common.{inr}
use Rattle.ratio_core.proofs.BinaryLaws.{one_is_gcd}
use Rattle.ratio_core.proofs.arithmetic.last_wide_divisor.Goals as goal

pub returns-then-common-eq1-clause-value : goal.returns-then-common-eq1-clause-value
returns-then-common-eq1-clause-value c = one_is_gcd _ _ (inr c.if-common-eq1.true)
