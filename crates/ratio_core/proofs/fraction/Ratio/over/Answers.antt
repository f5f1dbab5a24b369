use Rattle.ratio_core.proofs.Kept.{kept_den}
use Rattle.ratio_core.proofs.fraction.Ratio.over.Goals as goal

pub returns-clause-value : goal.returns-clause-value
returns-clause-value c = kept_den _ _ _ c.self.view_is c.self.invariant

pub returns-clause-positive : goal.returns-clause-positive
returns-clause-positive c = c.self.invariant.reduced.0
