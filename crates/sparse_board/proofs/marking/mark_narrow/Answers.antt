use Rattle.std.proofs.Common.{◌+◌, ◌<◌, ◌∙◌, arith, subst, sym}
use Rattle.whole_rows.specs.Rows as whole
use Rattle.sparse_board.proofs.WordMarkSteps.{words_marked_all, words_marked_more, words_marked_none}
use Rattle.sparse_board.proofs.marking.mark_narrow.Goals as goal

pub loop-k-init : goal.loop-k-init
loop-k-init c =
    words_marked_none (whole.width_of c.args.step.now.row + 1) c.args.q
    (whole.number_of c.args.step.now.row) c.args.marks.now

pub word-word-requires-clause-column : goal.word-word-requires-clause-column
word-word-requires-clause-column c =
    subst (λ n. c.args.q < n) (sym (c.loop-k.invariant.keep.sizes.columns ∙ c.requires.columns))
    c.requires.column

pub word-word-requires-clause-place : goal.word-word-requires-clause-place
word-word-requires-clause-place c =
    omega (arith, c.loop-k.invariant.keep.sizes.rows, c.stride-k-end.ensures, c.loop-k-test.true)

pub mark_word-requires-clause-columns : goal.mark_word-requires-clause-columns
mark_word-requires-clause-columns c = c.loop-k.invariant.keep.sizes.columns ∙ c.requires.columns

pub mark_word-requires-clause-place : goal.mark_word-requires-clause-place
mark_word-requires-clause-place c =
    omega (arith, c.loop-k.invariant.keep.sizes.rows, c.stride-k-end.ensures, c.loop-k-test.true)

pub loop-k-preserved : goal.loop-k-preserved
loop-k-preserved c =
    words_marked_more (whole.width_of c.args.step.now.row + 1) c.args.q
    (whole.number_of c.args.step.now.row) c.args.marks.now c.loop-k.marks c.mark_word.new.marks
    c.loop-k.k c.word-word.result c.loop-k.invariant c.word-word.ensures
    c.mark_word.ensures.kept c.mark_word.ensures.marked

pub returns-clause-kept : goal.returns-clause-kept
returns-clause-kept c = c.loop-k.invariant.keep

pub returns-clause-marked : goal.returns-clause-marked
returns-clause-marked c =
    words_marked_all (whole.width_of c.args.step.now.row + 1) c.args.q
    (whole.number_of c.args.step.now.row) c.args.marks.now c.loop-k.marks c.loop-k.k
    c.loop-k.invariant (omega (arith, c.stride-k-end.ensures, c.loop-k-test.false))
