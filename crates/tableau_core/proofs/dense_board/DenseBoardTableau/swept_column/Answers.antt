use Rattle.std.proofs.Common.{◌∙◌}
use Rattle.tableau_core.proofs.BoardSteps.{row_within, swept_is}
use Rattle.tableau_core.proofs.dense_board.DenseBoardTableau.swept_column.Goals as goal

pub returns-clause-value : goal.returns-clause-value
returns-clause-value c =
    c.first_nonzero.ensures.value
    ∙ swept_is c.self.inside c.args.r c.index.result.now c.deref.result.now c.args.self.now
    c.self.view_is (row_within c.self.inside c.args.self.now c.args.r c.self.view_is
    c.requires.row) c.index.ensures c.deref.ensures.value
