use Rattle.std.proofs.Common.{◌<◌, ◌∙◌, subst, sym}
use Rattle.sparse_board.proofs.WordMarkSteps.{bits_marked_all, bits_marked_more, bits_marked_none}
use Rattle.sparse_board.proofs.marking.mark_bits.Goals as goal

pub loop-rest-init : goal.loop-rest-init
loop-rest-init c =
    bits_marked_none c.args.word c.args.start c.args.i c.args.width c.args.marks.now

pub mark_below-requires-clause-row : goal.mark_below-requires-clause-row
mark_below-requires-clause-row c =
    subst (λ n. c.args.i < n) (sym c.loop-rest.invariant.keep.sizes.rows) c.requires.row

pub mark_below-requires-clause-columns : goal.mark_below-requires-clause-columns
mark_below-requires-clause-columns c =
    c.loop-rest.invariant.keep.sizes.columns ∙ c.requires.columns

pub loop-rest-preserved : goal.loop-rest-preserved
loop-rest-preserved c =
    bits_marked_more c.args.word c.loop-rest.rest c.args.start c.args.i c.args.width
    c.args.marks.now c.loop-rest.marks c.mark_below.new.marks c.lowest.result
    c.without_lowest-rest.result c.loop-rest.invariant
    (c.without_lowest-rest.ensures.cleared c.lowest.result c.lowest.ensures)
    c.mark_below.ensures.kept c.mark_below.ensures.marked

pub returns-clause-marked : goal.returns-clause-marked
returns-clause-marked c =
    bits_marked_all c.args.word c.loop-rest.rest c.args.start c.args.i c.args.width
    c.args.marks.now c.loop-rest.marks c.loop-rest.invariant c.loop-rest-test.false

pub returns-clause-kept : goal.returns-clause-kept
returns-clause-kept c = c.loop-rest.invariant.keep
