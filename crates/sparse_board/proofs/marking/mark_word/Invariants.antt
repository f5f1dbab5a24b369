use Rattle.sparse_board.proofs.WordMarkSteps.{IsWordMarkedTo}
use Rattle.sparse_board.proofs.marking.mark_word.Given as goal

abbrev pub invariant-loop-n : goal.invariant-loop-n
invariant-loop-n l =
    IsWordMarkedTo l.step.columns.items l.k l.word l.fn.marks l.marks l.n
