use Rattle.sparse_board.proofs.PlaceSteps.{between_splits}
use Rattle.sparse_board.proofs.terms.terms_between.Goals as goal

pub returns : goal.returns
returns c n low high h first last =
    between_splits n low high c.args.from c.args.end c.args.terms.now h first last c.requires.from
