use Rattle.ratio_core.proofs.Kept.{kept_neg, kept_neg_stored}
use Rattle.ratio_core.proofs.fraction.Ratio.neg.Goals as goal

pub invariant_of-result : goal.invariant_of-result
invariant_of-result c = kept_neg_stored _ _ _ c.self.view_is c.self.invariant

pub returns : goal.returns
returns c = kept_neg _ _ _ c.self.view_is c.self.invariant
