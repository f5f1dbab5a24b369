use Rattle.std.proofs.Common.{ap, ◌∙◌}
use Rattle.aff_core.specs.Function.{constant_function, function_of}
use Rattle.aff_core.proofs.aff.Aff.constant_function.Goals as goal

pub returns : goal.returns
unfolding constant_function
returns c = c.of.ensures ∙ ap (λ ts. function_of ts c.args.constant) c.new.ensures.items
