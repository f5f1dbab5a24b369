use Rattle.bland_run.specs.Input.{input_limit}
use Rattle.bland_run.proofs.Taken.{taken_after}
use Rattle.bland_run.proofs.input.read_input.Goals as goal

pub returns-in_err-take_piece-clause-taken : goal.returns-in_err-take_piece-clause-taken
returns-in_err-take_piece-clause-taken g c =
    taken_after (g.I.Source.left c.args.source.now) (g.I.Source.left c.loop.source)
    (g.I.Source.left c.take_piece.new.source) c.loop.into.items input_limit
    c.loop.invariant.taken c.loop.invariant.within c.in_err-take_piece.ensures.lost
