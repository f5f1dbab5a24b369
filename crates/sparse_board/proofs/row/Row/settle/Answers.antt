use Rattle.sparse_board.proofs.MixedSteps.{finished_lowered}
use Rattle.sparse_board.proofs.row.Row.settle.Goals as goal

pub returns : goal.returns
returns c =
    finished_lowered c.args.q c.args.step.now c.args.self.now c.ready.new.self c.finish.new.self
    c.ready.ensures c.finish.ensures
