use Rattle.std.proofs.Common.{◌+◌, ◌/◌, arith}
use Rattle.model_refusals.proofs.SeenNames.{each_part, no_twins}
use Rattle.model_refusals.proofs.twins.has_twins.Goals as goal

pub returns-then-len-lt2 : goal.returns-then-len-lt2
returns-then-len-lt2 c = no_twins c.args.names.now (omega arith)

pub returns : goal.returns
returns c =
    each_part c.args.names.now (c.len-2.result / 16384 + 1) c.loop-part.part (omega arith)
    (omega arith) c.loop-part.invariant
