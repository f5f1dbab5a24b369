use Rattle.std.proofs.Common.{rules, ◌∙◌, sym}
use Rattle.ratio_core.proofs.Kept.{is_zero_lem, zero_num}
use Rattle.ratio_core.proofs.fraction.Ratio.is_zero.Goals as goal

pub returns : goal.returns
returns c = (
  λ t. is_zero_lem _ (sym c.size.ensures.value ∙ search (rules, t)),
  λ e. search (rules, (c.size.ensures.value ∙ zero_num _ e)),
)
