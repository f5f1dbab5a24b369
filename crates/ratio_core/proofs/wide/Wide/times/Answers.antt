use Rattle.std.proofs.Common.{◌∙◌, ◌*◌, ◌^◌, ap₂}
use Rattle.ratio_core.proofs.Crossed.{product_by_halves}
use Rattle.ratio_core.proofs.wide.Wide.times.Goals as goal

pub returns-clause-value : goal.returns-clause-value
returns-clause-value c =
    product_by_halves _ _ _ _ _ _ _ _ _ _ _ _ (2 ^ 128)
    c.carrying_mul-first.ensures c.carrying_mul-part.ensures c.carrying_mul-second.ensures
    c.carrying_mul_add-third.ensures
    ∙ ap₂ ◌*◌ c.self.view_is c.other.view_is
