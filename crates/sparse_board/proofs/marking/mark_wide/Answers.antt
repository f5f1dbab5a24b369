use Rattle.std.proofs.Common.{◌≡◌, ◌<◌, slice_index, subst, sym, ◌∙◌}
use Rattle.sparse_board.specs.Marks.{IsJoined}
use Rattle.sparse_board.specs.Numbers.{row_columns, width_of}
use Rattle.sparse_board.proofs.MarkingSteps.{step_marked_all, step_marked_more, step_marked_none}
use Rattle.sparse_board.proofs.RowSteps.{column_is, row_end, row_place}
use Rattle.sparse_board.proofs.marking.mark_wide.Goals as goal
use Rattle.sparse_board.proofs.marking.mark_wide.Goals.{After-index}

-- the column of the entry that is read
column_read : (c : After-index) → c.index.result.now.column
    ≡ slice_index (row_columns c.args.step.now) c.loop-k.k
column_read c =
    let row = c.args.step.now in
    column_is row c.loop-k.k c.index.result.now
    (row_place row c.len-k-end.result c.loop-k.k c.len-k-end.ensures c.loop-k-test.true)
    c.index.ensures

pub join-requires-clause-from : goal.join-requires-clause-from
join-requires-clause-from c =
    subst (λ n. c.args.q < n) (sym (c.loop-k.invariant.keep.sizes.columns ∙ c.requires.columns))
    c.requires.column

pub join-requires-clause-to : goal.join-requires-clause-to
join-requires-clause-to c =
    let row = c.args.step.now in
    subst (λ n. c.index.result.now.column < n)
    (sym (c.loop-k.invariant.keep.sizes.columns ∙ c.requires.columns))
    (subst (λ n. n < width_of row)
    (sym (column_read (goal.at.join-requires-clause-to c).After-index))
    (row.within c.loop-k.k (row_place row c.len-k-end.result c.loop-k.k c.len-k-end.ensures
    c.loop-k-test.true)))

pub loop-k-init : goal.loop-k-init
loop-k-init c = step_marked_none (row_columns c.args.step.now) c.args.q c.args.marks.now

pub loop-k-preserved : goal.loop-k-preserved
loop-k-preserved c =
    step_marked_more (row_columns c.args.step.now) c.args.q c.args.marks.now c.loop-k.marks
    c.join.new.self c.loop-k.k c.loop-k.invariant
    (subst (λ j. IsJoined c.args.q j c.loop-k.marks c.join.new.self)
    (column_read (goal.at.loop-k-preserved c).After-index) c.join.ensures)

pub returns-clause-marked : goal.returns-clause-marked
returns-clause-marked c =
    step_marked_all c.args.step.now (width_of c.args.step.now) c.args.q
    c.args.marks.now c.loop-k.marks c.loop-k.k (row_end c.args.step.now c.len-k-end.result
    c.loop-k.k c.len-k-end.ensures c.loop-k.auto.k-end c.loop-k-test.false) c.loop-k.invariant

pub returns-clause-kept : goal.returns-clause-kept
returns-clause-kept c = c.loop-k.invariant.keep
