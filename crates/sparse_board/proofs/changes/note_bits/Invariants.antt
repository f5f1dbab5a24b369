use Rattle.std.specs.Prelude.{◌≡◌, ◌+◌, ◌-◌, length, min}
use Rattle.ratio_core.specs.Rational.{zero_ℚ}
use Rattle.sparse_board.specs.Changes.{AreChangesNoted}
use Rattle.sparse_board.specs.Rows.{number_in_row}
use Rattle.sparse_board.proofs.WordSteps.{AreLookedTo, IsNextBit}
use Rattle.sparse_board.proofs.changes.note_bits.Given as goal

abbrev pub invariant-loop-bit : goal.invariant-loop-bit
invariant-loop-bit l = record {
  looked : AreLookedTo (λ i. number_in_row l.rows i l.q ≡ zero_ℚ) (length l.rows) l.start l.word l.kept
      l.bit;
  next : IsNextBit l.word l.rest l.bit;
  noted : AreChangesNoted l.rows l.r l.q l.listed l.count (l.start + min l.bit l.end);
}

abbrev pub decreases-loop-bit : goal.decreases-loop-bit
decreases-loop-bit l = 64 - l.bit
