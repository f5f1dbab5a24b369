use Rattle.std.proofs.Common.{subst}
use Rattle.model_conflict.specs.Optima.{IsNotUnbounded}
use Rattle.model_conflict.proofs.optimizing.optimum_of.Goals as goal

pub unreachable-requires : goal.unreachable-requires
unreachable-requires c = subst IsNotUnbounded c.in-Unbounded.is c.requires
