use Rattle.std.proofs.Common.{ap, subst}
use Rattle.std.proofs.lemmas.Result.{IfOk-weaker}
use Rattle.std.specs.Prelude.{Err, IfOk, Ok}
use Rattle.cache_layer.specs.Cached.{state_of}
use Rattle.model_command.proofs.Attaching.{attached_model}
use Rattle.model_command.proofs.solving.solve.Goals as goal
use Rattle.model_command.specs.Solved.{IsGoodSolution, Solves, SolvesAttached}
use Rattle.model_command.specs.declared.solving.Solution.TheVariants.{Refused}

pub returns-in-Ok-clause-solves : goal.returns-in-Ok-clause-solves
returns-in-Ok-clause-solves g c =
    IfOk-weaker c.optimize.result (SolvesAttached (state_of c.attach.new.self))
    (Solves (state_of c.args.cache.now) (state_of c.attach.new.self))
    (λ solution solves. (Ok c.in-Ok._leaves, c.in-Ok.ensures.answer, solves))
    c.optimize.ensures.solves

pub returns-in-Ok-clause-good : goal.returns-in-Ok-clause-good
returns-in-Ok-clause-good g c =
    subst (λ model. IfOk c.optimize.result (IsGoodSolution model))
    (attached_model (Ok c.in-Ok._leaves) (state_of c.args.cache.now) (state_of c.attach.new.self)
    c.in-Ok.ensures.answer)
    c.optimize.ensures.good

pub returns-in-Ok-clause-model : goal.returns-in-Ok-clause-model
returns-in-Ok-clause-model g c =
    attached_model (Ok c.in-Ok._leaves) (state_of c.args.cache.now) (state_of c.attach.new.self)
    c.in-Ok.ensures.answer

pub returns-in_ok-tell_attach-in-Err-clause-solves :
    goal.returns-in_ok-tell_attach-in-Err-clause-solves
returns-in_ok-tell_attach-in-Err-clause-solves g c = (
  Err c.in-Err.fault,
  c.in-Err.ensures.answer,
  ap Refused c.in_ok-tell_attach-in-Err.ensures.told,
)

pub returns-in_ok-tell_attach-in-Err-clause-model :
    goal.returns-in_ok-tell_attach-in-Err-clause-model
returns-in_ok-tell_attach-in-Err-clause-model g c =
    attached_model (Err c.in-Err.fault) (state_of c.args.cache.now) (state_of c.attach.new.self)
    c.in-Err.ensures.answer

pub returns-in_err-tell_attach-in-Err-clause-model :
    goal.returns-in_err-tell_attach-in-Err-clause-model
returns-in_err-tell_attach-in-Err-clause-model g c =
    attached_model (Err c.in-Err.fault) (state_of c.args.cache.now) (state_of c.attach.new.self)
    c.in-Err.ensures.answer
