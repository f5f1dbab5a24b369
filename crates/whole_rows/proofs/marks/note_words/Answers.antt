use Rattle.std.proofs.Common.{◌∙◌, arith, map, pos, refl, slice_index, sym}
use Rattle.whole_rows.proofs.JoiningSteps.{words_long, words_next, words_none}
use Rattle.whole_rows.proofs.ListedSteps.{noted_all}
use Rattle.whole_rows.proofs.marks.note_words.Goals as goal

pub loop-k-init : goal.loop-k-init
loop-k-init c = words_none c.args.marks.now c.args.words.now c.requires.long

pub loop-k-preserved : goal.loop-k-preserved
loop-k-preserved c =
    words_next c.args.marks.now c.loop-k.words c.loop-k.used c.loop-k.k c.marked_count-count.result
    (slice_index c.args.marks.now c.loop-k.k) c.loop-k.invariant c.loop-k-test.true refl
    c.marked_count-count.ensures.few c.marked_count-count.ensures.none
    c.marked_count-count.ensures.one

pub returns-clause-lists : goal.returns-clause-lists
returns-clause-lists c =
    noted_all (map pos c.args.marks.now) c.loop-k.words c.loop-k.used c.loop-k.k c.loop-k.invariant
    (omega (arith, c.loop-k.auto.k-end, c.loop-k-test.false) ∙ sym (words_long c.args.marks.now))
