use Rattle.std.proofs.Common.{ap, pos}
use Rattle.std.specs.Prelude.{int_lt}
use Rattle.ratio_core.proofs.Kept.{kept_bits}
use Rattle.ratio_core.proofs.fraction.Ratio.is_negative.Goals as goal

pub returns : goal.returns
returns c = ap (λ z. int_lt z (pos 0)) (kept_bits _ _ _ c.self.view_is c.self.invariant)
