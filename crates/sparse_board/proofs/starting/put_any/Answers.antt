use Rattle.sparse_board.proofs.WholeStartSteps.{put_none}
use Rattle.sparse_board.proofs.starting.put_any.Goals as goal

pub returns-then-is_zero-clause-put : goal.returns-then-is_zero-clause-put
returns-then-is_zero-clause-put c _ =
    put_none c.args.j c.args.value.now c.args.row.now c.requires.zero
    (c.is_zero.ensures.0 c.if-is_zero.true)
