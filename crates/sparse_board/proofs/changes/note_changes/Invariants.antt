use Rattle.std.specs.Prelude.{◌*◌, length, min}
use Rattle.sparse_board.specs.Changes.{AreChangesNoted}
use Rattle.sparse_board.proofs.MarkingSteps.{KeepsMarked}
use Rattle.sparse_board.proofs.changes.note_changes.Given as goal

abbrev pub invariant-loop-k : goal.invariant-loop-k
invariant-loop-k l = record {
  keeps : KeepsMarked l.rows l.fn.marks l.marks;
  noted : AreChangesNoted l.rows l.r l.q l.listed l.count (min (l.k * 64) (length l.rows));
}
