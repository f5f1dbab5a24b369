use Rattle.std.proofs.Common.{◌≡◌, ◌<◌, ◌∙◌, arith, length, slice_index, subst, sym, true}
use Rattle.std.proofs.lemmas.List.{get_or_read}
use Rattle.sparse_board.specs.Marks.{has}
use Rattle.sparse_board.proofs.MarkingSteps.{keep_more}
use Rattle.sparse_board.proofs.WordMarkSteps.{row_words_all, row_words_more, row_words_none}
use Rattle.sparse_board.proofs.marking.mark_numbers.Goals as goal
use Rattle.sparse_board.proofs.marking.mark_numbers.Goals.{After-index}

within_lem : (c : After-index) → c.loop-k.k < length c.args.row.now.marks.items
within_lem c =
    omega (arith, c.loop-k-test.true, c.len-k-end.ensures, c.args.row.now.marks.ok.0)

-- the word that is read
word_is : (c : After-index) → c.index.result.now ≡ slice_index c.args.row.now.marks.items c.loop-k.k
word_is c =
    get_or_read c.args.row.now.marks.items c.loop-k.k c.index.result.now (within_lem c)
    c.index.ensures 0

pub loop-k-init : goal.loop-k-init
loop-k-init c = row_words_none c.args.row.now c.args.i c.args.width c.args.marks.now

pub mark_bits-requires-clause-row : goal.mark_bits-requires-clause-row
mark_bits-requires-clause-row c =
    subst (λ n. c.args.i < n) (sym c.loop-k.invariant.keep.sizes.rows) c.requires.row

pub mark_bits-requires-clause-columns : goal.mark_bits-requires-clause-columns
mark_bits-requires-clause-columns c =
    c.loop-k.invariant.keep.sizes.columns ∙ c.requires.columns

pub mark_bits-requires-clause-few : goal.mark_bits-requires-clause-few
mark_bits-requires-clause-few c =
    let row = c.args.row.now in
    omega (
      arith,
      within_lem (goal.at.mark_bits-requires-clause-few c).After-index,
      row.marks_long,
      row.numbers.ok.0,
      row.numbers.ok.1,
      row.numbers.small,
    )

pub mark_below-requires-clause-row : goal.mark_below-requires-clause-row
mark_below-requires-clause-row c =
    subst (λ n. c.args.i < n) (sym c.loop-k.invariant.keep.sizes.rows) c.requires.row

pub mark_below-requires-clause-columns : goal.mark_below-requires-clause-columns
mark_below-requires-clause-columns c =
    c.loop-k.invariant.keep.sizes.columns ∙ c.requires.columns

pub loop-k-preserved : goal.loop-k-preserved
loop-k-preserved c =
    row_words_more c.args.row.now c.args.i c.args.width c.args.marks.now c.loop-k.marks
    c.mark_bits.new.marks c.loop-k.k c.index.result.now c.loop-k.invariant
    (word_is (goal.at.loop-k-preserved c).After-index) c.mark_bits.ensures.kept
    c.mark_bits.ensures.marked

pub returns-clause-marked : goal.returns-clause-marked
returns-clause-marked c =
    let row = c.args.row.now in
    row_words_all row c.args.i c.args.width c.args.marks.now c.loop-k.marks c.mark_below.new.marks
    c.loop-k.k c.loop-k.invariant
    (omega (arith, c.loop-k-test.false, c.len-k-end.ensures, row.marks.ok.0))
    c.mark_below.ensures.kept
    (subst (λ n. n < c.args.width → has c.mark_below.new.marks n c.args.i ≡ true)
    (c.len.ensures ∙ row.numbers.ok.0) c.mark_below.ensures.marked)
    c.requires.wide

pub returns-clause-kept : goal.returns-clause-kept
returns-clause-kept c =
    keep_more c.args.marks.now c.loop-k.marks c.mark_below.new.marks c.loop-k.invariant.keep
    c.mark_below.ensures.kept
