use Rattle.sparse_board.specs.Mixed as mixed
use Rattle.sparse_board.proofs.EachSteps.{IsEachTo}
use Rattle.sparse_board.proofs.lowering.lower_each.Given as goal

abbrev pub invariant-loop-j : goal.invariant-loop-j
invariant-loop-j l =
    IsEachTo l.width (mixed.number_of l.row) l.by (mixed.units_of l.step) l.j l.next
