use Rattle.whole_rows.specs.Listed.{IsLoweredAt}
use Rattle.whole_rows.proofs.listed.lower_listed.Given as goal

abbrev pub invariant-loop-k : goal.invariant-loop-k
invariant-loop-k l = IsLoweredAt l.by l.columns l.step l.k l.fn.numbers l.numbers
