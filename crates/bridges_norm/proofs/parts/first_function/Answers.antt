use Rattle.std.proofs.Common.{◌∙◌}
use Rattle.bridges_norm.proofs.Loops.{first_there}
use Rattle.bridges_norm.proofs.parts.first_function.Goals as goal

pub returns : goal.returns
returns c =
    c.index-funcs-0.is ∙ first_there c.args.funcs.now c.index-funcs-0.result c.requires
