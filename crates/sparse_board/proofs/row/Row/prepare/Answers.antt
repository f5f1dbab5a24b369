use Rattle.std.proofs.Common.{sym, ◌∙◌}
use Rattle.sparse_board.proofs.MixedSteps.{place_fits}
use Rattle.sparse_board.proofs.row.Row.prepare.Goals as goal

pub returns-then-is_in_place-clause-fits : goal.returns-then-is_in_place-clause-fits
returns-then-is_in_place-clause-fits c =
    place_fits c.args.q c.args.self.now.now c.args.step.now
    (sym c.is_in_place.ensures ∙ c.if-is_in_place.true) c.requires.column

pub prepare_beside-requires-clause-beside : goal.prepare_beside-requires-clause-beside
prepare_beside-requires-clause-beside c = sym c.is_in_place.ensures ∙ c.if-is_in_place.false
