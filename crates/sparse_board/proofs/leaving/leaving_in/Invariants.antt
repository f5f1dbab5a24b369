use Rattle.std.specs.Prelude.{◌+◌, ◌-◌, min}
use Rattle.sparse_board.specs.Leaving.{IsBestTo}
use Rattle.sparse_board.proofs.WordSteps.{IsNextBit}
use Rattle.sparse_board.proofs.leaving.leaving_in.Given as goal

abbrev pub invariant-loop-bit : goal.invariant-loop-bit
invariant-loop-bit l = record {
  best : IsBestTo l.rows l.basis l.side l.q (l.start + min l.bit l.end) l.best;
  next : IsNextBit l.word l.rest l.bit;
}

abbrev pub decreases-loop-bit : goal.decreases-loop-bit
decreases-loop-bit l = 64 - l.bit
