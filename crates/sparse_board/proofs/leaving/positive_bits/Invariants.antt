use Rattle.std.specs.Prelude.{◌≡◌, ◌-◌, IsTrue, false, length}
use Rattle.sparse_board.specs.Leaving.{may_leave}
use Rattle.sparse_board.proofs.WordSteps.{AreLeftTo, AreLookedTo, IsNextBit}
use Rattle.sparse_board.proofs.leaving.positive_bits.Given as goal

abbrev pub invariant-loop-bit : goal.invariant-loop-bit
invariant-loop-bit l = record {
  looked : AreLookedTo (λ i. may_leave l.rows l.q i ≡ false) (length l.rows) l.start l.word l.kept l.bit;
  left : AreLeftTo (λ i. IsTrue (may_leave l.rows l.q i)) (length l.rows) l.start l.kept l.bit;
  next : IsNextBit l.word l.rest l.bit;
}

abbrev pub decreases-loop-bit : goal.decreases-loop-bit
decreases-loop-bit l = 64 - l.bit
