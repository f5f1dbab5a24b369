use Rattle.std.specs.Prelude.{◌*◌, length, min}
use Rattle.whole_rows.specs.Listed.{IsNotedTo}
use Rattle.whole_rows.proofs.TakingSteps.{AreWordsPut, TakenTo}
use Rattle.whole_rows.proofs.WordSteps.{AreColumnsChanged}
use Rattle.whole_rows.proofs.listed.take_columns.Given as goal

abbrev pub invariant-loop-k : goal.invariant-loop-k
invariant-loop-k l = record {
  noted : IsNotedTo l.source l.columns l.used (min (l.k * 64) (length l.source));
  taken : AreColumnsChanged (TakenTo l.source) (l.k * 64) l.fn.numbers l.numbers;
  put : AreWordsPut l.k l.marks l.source;
}
