use Rattle.std.specs.Prelude.{◌≡◌, ℕ, ◌<◌}
use Rattle.std.specs.Int.{bit_at}
use Rattle.whole_rows.specs.Shrinking.{IsMeasuredOn}
use Rattle.whole_rows.proofs.MeasuringSteps.{IsMeasuredPlace}
use Rattle.whole_rows.proofs.shrinking.measured_word.Given as goal

abbrev pub invariant-loop-rest : goal.invariant-loop-rest
invariant-loop-rest l = record {
  within : (i : ℕ) → i < 64 → bit_at l.rest i ≡ 1 → bit_at l.word i ≡ 1;
  measured :
      IsMeasuredOn (IsMeasuredPlace l.row l.step l.over l.by l.start l.rest) l.row l.step l.over
      l.by l.common l.greatest;
}

abbrev pub decreases-loop-rest : goal.decreases-loop-rest
decreases-loop-rest l = l.rest
