use Rattle.std.proofs.Common.{◌+◌, ◌*◌, ◌/◌}
use Rattle.sparse_board.proofs.MarkSteps.{none_marked}
use Rattle.sparse_board.proofs.marks.Marks.none.Goals as goal

pub returns-clause-none : goal.returns-clause-none
returns-clause-none c =
    none_marked _ (c.args.columns * (c.args.rows / 64 + 1))
    (c.in_ok-words.ensures.items_if_clones_equal (λ y h. h))
