use Rattle.std.specs.Prelude.{◌*◌}
use Rattle.whole_rows.specs.Shrinking.{IsBelowOrSide, IsMeasuredOn}
use Rattle.whole_rows.proofs.shrinking.measured_long.Given as goal

abbrev pub invariant-loop-k : goal.invariant-loop-k
invariant-loop-k l =
    IsMeasuredOn (IsBelowOrSide l.row (l.k * 64)) l.row l.step l.over l.by l.measure.common
    l.measure.greatest
