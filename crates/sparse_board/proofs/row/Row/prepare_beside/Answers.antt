use Rattle.std.proofs.Common.{sym, ◌∙◌}
use Rattle.sparse_board.specs.Mixed.{number_of, units_of, width_of}
use Rattle.sparse_board.proofs.MixedSteps.{zero_mixed_fits}
use Rattle.sparse_board.proofs.row.Row.prepare_beside.Goals as goal

pub returns-then-is_zero-clause-fits : goal.returns-then-is_zero-clause-fits
returns-then-is_zero-clause-fits c =
    let row = c.args.self.now.now in
    zero_mixed_fits row (width_of row) (number_of row c.args.q) (units_of c.args.step.now)
    (sym c.number-by.ensures ∙ c.is_zero.ensures.0 c.if-is_zero.true)
