use Rattle.ratio_core.proofs.Kept.{kept_bits, kept_fits}
use Rattle.ratio_core.proofs.fraction.Ratio.num.Goals as goal

pub returns-clause-value : goal.returns-clause-value
returns-clause-value c = kept_bits _ _ _ c.self.view_is c.self.invariant

pub returns-clause-fits : goal.returns-clause-fits
returns-clause-fits c = kept_fits _ _ _ c.self.view_is c.self.invariant
