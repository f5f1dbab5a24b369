use Rattle.sparse_board.proofs.WordMarkSteps.{AreBitsMarkedBut}
use Rattle.sparse_board.proofs.marking.mark_bits.Given as goal

abbrev pub invariant-loop-rest : goal.invariant-loop-rest
invariant-loop-rest l =
    AreBitsMarkedBut l.word l.rest l.start l.i l.width l.fn.marks l.marks

abbrev pub decreases-loop-rest : goal.decreases-loop-rest
decreases-loop-rest l = l.rest
