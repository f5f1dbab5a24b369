use Rattle.std.specs.Prelude as prelude
use Rattle.dual_command.proofs.Told.{says_solved, says_written}
use Rattle.dual_command.proofs.answering.answer_dual.Goals as goal
use Rattle.model_command.specs.Alone.{standard_by}

pub returns-in-Write : goal.returns-in-Write
returns-in-Write g c =
    says_written c.args.model.now.model c.file_of-written.result
    (standard_by (prelude.map g.B.Bridge.state c.args.bridges.items)) c.args.task
    c.args.dual.model c.in-Write.is c.requires.dual c.file_of-written.ensures

pub returns-in-Solve : goal.returns-in-Solve
returns-in-Solve g c =
    says_solved c.args.model.now.model c.solved.result
    (standard_by (prelude.map g.B.Bridge.state c.args.bridges.items)) c.args.task c.in-Solve.is
    c.solved.ensures
