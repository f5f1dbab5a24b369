use Rattle.std.proofs.Common.{ap, refl}
use Rattle.std.specs.Prelude.{Err, Ok}
use Rattle.model_command.proofs.solving.optimize.Goals as goal
use Rattle.model_command.specs.declared.solving.Solution.TheVariants.{Refused}

pub returns-in-Ok-clause-solves : goal.returns-in-Ok-clause-solves
returns-in-Ok-clause-solves g c = (Ok c.in-Ok.certificate, c.in-Ok.ensures.outcome, refl)

pub returns-in_ok-tell_optimize-in-Err-clause-solves :
    goal.returns-in_ok-tell_optimize-in-Err-clause-solves
returns-in_ok-tell_optimize-in-Err-clause-solves g c = (
  Err c.in-Err.fault,
  c.in-Err.ensures.outcome,
  ap Refused c.in_ok-tell_optimize-in-Err.ensures.told,
)
