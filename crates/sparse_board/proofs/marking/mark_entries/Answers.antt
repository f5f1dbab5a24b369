use Rattle.std.proofs.Common.{◌≡◌, ◌<◌, slice_index, subst, sym, true, ◌∙◌}
use Rattle.sparse_board.specs.Marks.{IsPut}
use Rattle.sparse_board.specs.Numbers.{row_columns, width_of}
use Rattle.sparse_board.proofs.MarkingSteps.{marked_all, marked_more, marked_none}
use Rattle.sparse_board.proofs.RowSteps.{column_is, row_end, row_place}
use Rattle.sparse_board.proofs.marking.mark_entries.Goals as goal
use Rattle.sparse_board.proofs.marking.mark_entries.Goals.{After-index}

-- the column of the entry that is read
column_read : (c : After-index) → c.index.result.now.column
    ≡ slice_index (row_columns c.args.row.now) c.loop-k.k
column_read c =
    let row = c.args.row.now in
    column_is row c.loop-k.k c.index.result.now
    (row_place row c.len-k-end.result c.loop-k.k c.len-k-end.ensures c.loop-k-test.true)
    c.index.ensures

pub set-requires-clause-column : goal.set-requires-clause-column
set-requires-clause-column c =
    let row = c.args.row.now in
    subst (λ n. c.index.result.now.column < n)
    (sym (c.loop-k.invariant.keep.sizes.columns ∙ c.requires.columns))
    (subst (λ n. n < width_of row)
    (sym (column_read (goal.at.set-requires-clause-column c).After-index))
    (row.within c.loop-k.k (row_place row c.len-k-end.result c.loop-k.k c.len-k-end.ensures
    c.loop-k-test.true)))

pub set-requires-clause-row : goal.set-requires-clause-row
set-requires-clause-row c =
    subst (λ n. c.args.i < n) (sym c.loop-k.invariant.keep.sizes.rows) c.requires.row

pub loop-k-init : goal.loop-k-init
loop-k-init c = marked_none (row_columns c.args.row.now) c.args.i c.args.marks.now

pub loop-k-preserved : goal.loop-k-preserved
loop-k-preserved c =
    marked_more (row_columns c.args.row.now) c.args.i c.args.marks.now c.loop-k.marks
    c.set.new.self c.loop-k.k c.loop-k.invariant
    (subst (λ j. IsPut j c.args.i true c.loop-k.marks c.set.new.self)
    (column_read (goal.at.loop-k-preserved c).After-index) c.set.ensures)

pub returns-clause-marked : goal.returns-clause-marked
returns-clause-marked c =
    marked_all c.args.row.now c.args.i c.args.marks.now c.loop-k.marks c.loop-k.k
    (row_end c.args.row.now c.len-k-end.result c.loop-k.k c.len-k-end.ensures
    c.loop-k.auto.k-end c.loop-k-test.false) c.loop-k.invariant

pub returns-clause-kept : goal.returns-clause-kept
returns-clause-kept c = c.loop-k.invariant.keep
