use Rattle.std.specs.Prelude as prelude
use Rattle.dual_command.proofs.Made.{says_with, says_without}
use Rattle.dual_command.proofs.answering.answer_on.Goals as goal
use Rattle.model_command.specs.Alone.{standard_by}

pub returns-in-Ok : goal.returns-in-Ok
returns-in-Ok g c =
    says_with c.args.model.now.model
    (standard_by (prelude.map g.B.Bridge.state c.args.bridges.items)) c.args.task c.in-Ok.dual
    c.answer_dual.result c.unwrap_or.result c.in-Ok.ensures c.answer_dual.ensures
    c.unwrap_or.ensures

pub returns-in-Err : goal.returns-in-Err
returns-in-Err g c =
    says_without c.args.model.now.model
    (standard_by (prelude.map g.B.Bridge.state c.args.bridges.items)) c.args.task c.in-Err.answer
    c.in-Err.ensures
