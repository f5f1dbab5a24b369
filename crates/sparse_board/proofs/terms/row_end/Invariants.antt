use Rattle.sparse_board.proofs.PlaceSteps.{ArePassed}
use Rattle.sparse_board.proofs.terms.row_end.Given as goal

abbrev pub invariant-loop-k : goal.invariant-loop-k
invariant-loop-k l = ArePassed l.to l.from l.k l.terms
