use Rattle.std.specs.Prelude.{◌*◌, length, min}
use Rattle.whole_rows.specs.ColumnMarks.{MarksCover}
use Rattle.whole_rows.specs.Listed.{IsNotedTo}
use Rattle.whole_rows.proofs.listed.note_columns.Given as goal

abbrev pub invariant-loop-k : goal.invariant-loop-k
invariant-loop-k l = record {
  noted : IsNotedTo l.numbers l.columns l.used (min (l.k * 64) (length l.numbers));
  covers : MarksCover l.marks l.numbers;
}
