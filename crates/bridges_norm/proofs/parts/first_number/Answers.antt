use Rattle.std.proofs.Common.{◌∙◌}
use Rattle.bridges_norm.proofs.Loops.{number_there}
use Rattle.bridges_norm.proofs.parts.first_number.Goals as goal

pub returns : goal.returns
returns c =
    c.index-numbers-0.is ∙ number_there c.args.numbers.now c.index-numbers-0.result c.requires
