use Rattle.std.specs.Prelude.{◌*◌}
use Rattle.whole_rows.proofs.WordSteps.{AreColumnsChanged, ScaledTo}
use Rattle.whole_rows.proofs.marks.scale_marked.Given as goal

abbrev pub invariant-loop-k : goal.invariant-loop-k
invariant-loop-k l = AreColumnsChanged (ScaledTo l.over l.fn.numbers) (l.k * 64) l.fn.numbers l.numbers
