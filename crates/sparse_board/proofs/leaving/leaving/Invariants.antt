use Rattle.std.specs.Prelude.{◌*◌, length, min}
use Rattle.sparse_board.specs.Leaving.{IsBestTo}
use Rattle.sparse_board.proofs.leaving.leaving.Given as goal

abbrev pub invariant-loop-k : goal.invariant-loop-k
invariant-loop-k l = IsBestTo l.rows l.basis l.side l.q (min (l.k * 64) (length l.rows)) l.best
