use Rattle.std.proofs.Common.{◌∙◌}
use Rattle.std.specs.Prelude as prelude
use Rattle.model_command.specs.Alone.{standard_by}
use Rattle.relax_command.proofs.Made.{says_with}
use Rattle.relax_command.proofs.answering.answer_on.Goals as goal

pub solved-requires-clause-from : goal.solved-requires-clause-from
solved-requires-clause-from g c = (c.args.model.model, c.in-Ok.ensures.0)

pub solved-requires-clause-settled : goal.solved-requires-clause-settled
solved-requires-clause-settled g c = c.in-Ok.ensures.2 ∙ c.requires.settled

pub returns-in-Ok : goal.returns-in-Ok
returns-in-Ok g c =
    says_with (standard_by (prelude.map g.B.Bridge.state c.args.bridges.items)) c.args.model
    c.relax.new.model c.solved.result c.unwrap_or.result c.in-Ok.ensures c.solved.ensures
    c.unwrap_or.ensures

pub returns-in-Err : goal.returns-in-Err
returns-in-Err g c = λ not.
    c.in-Err.ensures not (standard_by (prelude.map g.B.Bridge.state c.args.bridges.items))
