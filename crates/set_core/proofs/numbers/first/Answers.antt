use Rattle.std.proofs.Common.{◌∙◌}
use Rattle.std.proofs.lemmas.List.{get_or_default}
use Rattle.ratio_core.specs.Rational.{zero_ℚ}
use Rattle.set_core.proofs.numbers.first.Goals as goal

pub returns : goal.returns
returns c = c.index-v-0.is ∙ get_or_default c.args.v.now 0 c.index-v-0.result zero_ℚ c.requires
