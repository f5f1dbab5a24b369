use Rattle.std.specs.Prelude.{map, pos}
use Rattle.whole_rows.specs.Listed.{IsNotedTo}
use Rattle.whole_rows.proofs.marks.note_words.Given as goal

abbrev pub invariant-loop-k : goal.invariant-loop-k
invariant-loop-k l = IsNotedTo (map pos l.marks) l.words l.used l.k
