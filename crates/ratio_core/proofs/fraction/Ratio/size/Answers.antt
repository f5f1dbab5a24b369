use Rattle.std.proofs.Common.{◌∙◌, ap, unsigned_abs}
use Rattle.ratio_core.proofs.Kept.{kept_bits}
use Rattle.ratio_core.proofs.fraction.Ratio.size.Goals as goal

pub returns-clause-value : goal.returns-clause-value
returns-clause-value c =
    c.unsigned_abs.ensures.value ∙ ap unsigned_abs (kept_bits _ _ _ c.self.view_is c.self.invariant)
