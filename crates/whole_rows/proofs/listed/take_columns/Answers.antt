use Rattle.std.proofs.Common.{◌≡◌, ◌+◌, ◌*◌, ◌∙◌, arith, length, refl, slice_index, subst}
use Rattle.whole_rows.specs.Listed.{IsNotedTo}
use Rattle.whole_rows.proofs.ListedSteps.{noted_all, noted_none}
use Rattle.whole_rows.proofs.MarkSteps.{word_covers}
use Rattle.whole_rows.proofs.NotingSteps.{word_after, words_all, words_before}
use Rattle.whole_rows.proofs.TakingSteps.{TakenTo, put_all, put_none, put_word, taken_all, taken_word}
use Rattle.whole_rows.proofs.WordSteps.{columns_none, words_past}
use Rattle.whole_rows.proofs.listed.take_columns.Goals as goal

pub loop-k-init : goal.loop-k-init
loop-k-init c = record {
  noted = subst (IsNotedTo c.args.source.now c.args.columns.now 0) (omega arith)
      (noted_none c.args.source.now c.args.columns.now c.requires.long);
  taken = columns_none (TakenTo c.args.source.now) c.args.numbers.now;
  put = put_none c.args.marks.now c.args.source.now;
}

pub take_word-noted-requires-clause-covers : goal.take_word-noted-requires-clause-covers
take_word-noted-requires-clause-covers c =
    word_covers c.args.from.now c.args.source.now c.loop-k.k (slice_index c.args.from.now c.loop-k.k)
    c.requires.covers refl

pub take_word-noted-requires-clause-zeros : goal.take_word-noted-requires-clause-zeros
take_word-noted-requires-clause-zeros c = λ j b.
    c.loop-k.invariant.taken.others j b ∙ c.requires.zeros j

pub take_word-noted-requires-clause-noted : goal.take_word-noted-requires-clause-noted
take_word-noted-requires-clause-noted c =
    subst (IsNotedTo c.args.source.now c.loop-k.columns c.loop-k.used)
    (words_before (length c.args.source.now) (length c.args.from.now) c.loop-k.k c.requires.words
    c.loop-k-test.true) c.loop-k.invariant.noted

pub loop-k-preserved : goal.loop-k-preserved
loop-k-preserved c =
    let next : (c.loop-k.k + 1) * 64 ≡ c.loop-k.k * 64 + 64 = omega arith in
    record {
      noted = subst (IsNotedTo c.args.source.now c.take_word-noted.new.columns
          c.take_word-noted.result.used) (word_after (length c.args.source.now) c.loop-k.k)
          c.take_word-noted.ensures.noted;
      taken = taken_word c.args.source.now (c.loop-k.k * 64) ((c.loop-k.k + 1) * 64)
          c.args.numbers.now c.loop-k.numbers c.take_word-noted.new.numbers
          c.loop-k.invariant.taken c.take_word-noted.ensures.taken next;
      put = put_word c.loop-k.marks c.args.source.now c.loop-k.k c.take_word-noted.result.kept
          c.loop-k.invariant.put c.take_word-noted.ensures.kept
          (omega (arith, c.loop-k-test.true, c.loop-k.auto.marks, c.requires.marks));
    }

pub returns-clause-numbers : goal.returns-clause-numbers
returns-clause-numbers c =
    taken_all c.args.source.now c.args.numbers.now c.loop-k.numbers (c.loop-k.k * 64)
    c.loop-k.invariant.taken c.requires.wide
    (words_past (length c.args.source.now) (length c.args.from.now) c.loop-k.k c.requires.words
    (omega (arith, c.loop-k-test.false)))

pub returns-clause-covers : goal.returns-clause-covers
returns-clause-covers c =
    put_all c.loop-k.marks c.args.source.now c.loop-k.k c.loop-k.invariant.put
    (omega (arith, c.loop-k-test.false, c.loop-k.auto.marks, c.requires.marks))
    (omega (arith, c.loop-k.auto.marks, c.requires.marks, c.requires.words))

pub returns-clause-lists : goal.returns-clause-lists
returns-clause-lists c =
    noted_all c.args.source.now c.loop-k.columns c.loop-k.used _ c.loop-k.invariant.noted
    (words_all (length c.args.source.now) (length c.args.from.now) c.loop-k.k c.requires.words
    (omega (arith, c.loop-k-test.false)))
