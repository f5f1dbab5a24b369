use Rattle.std.proofs.Common.{arith, length, refl, slice_index, subst}
use Rattle.whole_rows.specs.Listed.{IsNotedTo}
use Rattle.whole_rows.proofs.ListedSteps.{noted_all, noted_none}
use Rattle.whole_rows.proofs.MarkSteps.{covers_word, word_covers}
use Rattle.whole_rows.proofs.NotingSteps.{word_after, words_all, words_before}
use Rattle.whole_rows.proofs.listed.note_columns.Goals as goal

pub loop-k-init : goal.loop-k-init
loop-k-init c = record {
  noted = subst (IsNotedTo c.args.numbers.now c.args.columns.now 0) (omega arith)
      (noted_none c.args.numbers.now c.args.columns.now c.requires.long);
  covers = c.requires.covers;
}

pub note_word-noted-requires-clause-covers : goal.note_word-noted-requires-clause-covers
note_word-noted-requires-clause-covers c =
    word_covers c.loop-k.marks c.args.numbers.now c.loop-k.k (slice_index c.loop-k.marks c.loop-k.k)
    c.loop-k.invariant.covers refl

pub note_word-noted-requires-clause-noted : goal.note_word-noted-requires-clause-noted
note_word-noted-requires-clause-noted c =
    subst (IsNotedTo c.args.numbers.now c.loop-k.columns c.loop-k.used)
    (words_before (length c.args.numbers.now) (length c.args.marks.now) c.loop-k.k c.requires.marks
    c.loop-k-test.true) c.loop-k.invariant.noted

pub loop-k-preserved : goal.loop-k-preserved
loop-k-preserved c = record {
  noted = subst (IsNotedTo c.args.numbers.now c.note_word-noted.new.columns
      c.note_word-noted.result.used) (word_after (length c.args.numbers.now) c.loop-k.k)
      c.note_word-noted.ensures.noted;
  covers = covers_word c.loop-k.marks c.args.numbers.now c.loop-k.k c.note_word-noted.result.kept
      c.loop-k.invariant.covers c.note_word-noted.ensures.kept
      (omega (arith, c.loop-k-test.true, c.loop-k.auto.marks));
}

pub returns-clause-covers : goal.returns-clause-covers
returns-clause-covers c = c.loop-k.invariant.covers

pub returns-clause-lists : goal.returns-clause-lists
returns-clause-lists c =
    noted_all c.args.numbers.now c.loop-k.columns c.loop-k.used _ c.loop-k.invariant.noted
    (words_all (length c.args.numbers.now) (length c.args.marks.now) c.loop-k.k c.requires.marks
    (omega (arith, c.loop-k-test.false)))
