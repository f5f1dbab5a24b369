use Rattle.std.proofs.Common.{arith, subst, sym, ◌∙◌, ◌≤◌, ◌<◌}
use Rattle.ratio_core.specs.Rational.{Fits}
use Rattle.sparse_board.specs.Sparse.{AreColumnsBelow}
use Rattle.sparse_board.specs.Numbers.{AppendsNumber, row_columns, width_of}
use Rattle.sparse_board.proofs.LoweringSteps.{copied_all, copied_more, copied_none, copied_split, copy_above}
use Rattle.sparse_board.proofs.RowSteps.{column_is, columns_long, row_place, value_is}
use Rattle.sparse_board.proofs.lowering.copy_below.Goals as goal

pub loop-end-init : goal.loop-end-init
loop-end-init c =
    let r = c.requires.ready in copied_none c.args.row.now c.args.i c.args.column c.args.next.now
    r.0 r.1 r.2 r.3

pub returns-then-next_column-column-clause-copied : goal.returns-then-next_column-column-clause-copied
returns-then-next_column-column-clause-copied c =
    let b = row_place c.args.row.now c.len-end-end.result c.loop-end.end c.len-end-end.ensures
    c.loop-end-test.true in
    let is = column_is c.args.row.now c.loop-end.end c.index.result.now b c.index.ensures in
    copied_all c.args.row.now c.args.i c.args.column c.args.next.now c.loop-end.next c.loop-end.end
    c.loop-end.invariant (λ _. subst (λ x. c.args.column ≤ x) is c.if-next_column-column.true)

pub loop-end-preserved : goal.loop-end-preserved
loop-end-preserved c =
    let b = row_place c.args.row.now c.len-end-end.result c.loop-end.end c.len-end-end.ensures
    c.loop-end-test.true in
    let is = column_is c.args.row.now c.loop-end.end c.index.result.now b c.index.ensures in
    copied_more c.args.row.now c.args.i c.args.column c.args.next.now c.loop-end.next c.loop-end.end
    c.loop-end.invariant b (subst (λ x. x < c.args.column) is c.if-next_column-column.false)
    c.index-in-loop-end.result.now.value c.push.new.self
    (value_is c.args.row.now c.loop-end.end c.index-in-loop-end.result.now b
    c.index-in-loop-end.ensures)
    (subst (λ x. AppendsNumber x c.index-in-loop-end.result.now.value c.loop-end.next c.push.new.self) is
    c.push.ensures)

pub returns-clause-copied : goal.returns-clause-copied
returns-clause-copied c =
    copied_all c.args.row.now c.args.i c.args.column c.args.next.now c.loop-end.next c.loop-end.end
    c.loop-end.invariant (λ b. absurd (omega (
      arith,
      b,
      c.args.row.now.entries.ok.0,
      columns_long c.args.row.now,
    )))

pub push-requires-clause-other : goal.push-requires-clause-other
push-requires-clause-other c =
    let row = c.args.row.now in
    let b = row_place row c.len-end-end.result c.loop-end.end c.len-end-end.ensures
    c.loop-end-test.true in
    λ e. row.sparse.others c.loop-end.end b
    (sym (value_is row c.loop-end.end c.index-in-loop-end.result.now b
    c.index-in-loop-end.ensures) ∙ e)

pub push-requires-clause-fits : goal.push-requires-clause-fits
push-requires-clause-fits c =
    let row = c.args.row.now in
    let b = row_place row c.len-end-end.result c.loop-end.end c.len-end-end.ensures
    c.loop-end-test.true in
    subst Fits (sym (value_is row c.loop-end.end c.index-in-loop-end.result.now b
    c.index-in-loop-end.ensures)) (row.sparse.fit c.loop-end.end)

pub returns-then-next_column-column-clause-split : goal.returns-then-next_column-column-clause-split
returns-then-next_column-column-clause-split c =
    let row = c.args.row.now in
    let b = row_place row c.len-end-end.result c.loop-end.end c.len-end-end.ensures
    c.loop-end-test.true in
    let is = column_is row c.loop-end.end c.index.result.now b c.index.ensures in
    copied_split row c.args.i c.args.column c.args.next.now c.loop-end.next c.loop-end.end
    c.loop-end.invariant (λ _. subst (λ x. c.args.column ≤ x) is c.if-next_column-column.true)

pub push-requires-clause-above : goal.push-requires-clause-above
push-requires-clause-above c =
    let row = c.args.row.now in
    let b = row_place row c.len-end-end.result c.loop-end.end c.len-end-end.ensures
    c.loop-end-test.true in
    let is = column_is row c.loop-end.end c.index.result.now b c.index.ensures in
    subst (λ x. AreColumnsBelow x (row_columns c.loop-end.next)) (sym is)
    (copy_above row c.args.i c.args.column c.args.next.now c.loop-end.next c.loop-end.end
    c.loop-end.invariant b (subst (λ x. x < c.args.column) is c.if-next_column-column.false))

pub push-requires-clause-within : goal.push-requires-clause-within
push-requires-clause-within c =
    let row = c.args.row.now in
    let b = row_place row c.len-end-end.result c.loop-end.end c.len-end-end.ensures
    c.loop-end-test.true in
    let is = column_is row c.loop-end.end c.index.result.now b c.index.ensures in
    subst (λ n. c.index.result.now.column < n) (sym (c.loop-end.invariant.width ∙ c.requires.width))
    (subst (λ x. x < width_of row) (sym is) (row.within c.loop-end.end b))
