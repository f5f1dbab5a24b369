use Rattle.std.proofs.Common.{◌∙◌}
use Rattle.sparse_board.proofs.BoardSteps.{nonzero_is, swept_is}
use Rattle.sparse_board.proofs.RowSteps.{if_some_then}
use Rattle.sparse_board.proofs.board.BoardTableau.swept_column.Goals as goal

pub returns-clause-value : goal.returns-clause-value
returns-clause-value c =
    c.first_nonzero.ensures.value
    ∙ swept_is c.self.inside c.args.self.now c.self.view_is c.args.r c.index.result.now
    c.requires.row c.index.ensures

pub returns-clause-entry : goal.returns-clause-entry
returns-clause-entry c =
    if_some_then c.first_nonzero.result _ _ (nonzero_is c.self.inside c.args.self.now c.self.view_is
    c.args.r c.index.result.now c.requires.row c.index.ensures) c.first_nonzero.ensures.within
