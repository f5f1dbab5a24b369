use Rattle.std.proofs.Common.{subst, sym, ◌∙◌, ◌<◌}
use Rattle.tableau_core.specs.LoweringLaws.{is_ok-err}
use Rattle.sparse_board.specs.Numbers.{AppendsNumber, width_of}
use Rattle.sparse_board.proofs.LoweringSteps.{divided_all, divided_fit, divided_more, divided_none, divided_refused}
use Rattle.sparse_board.proofs.RowSteps.{column_is, row_end, row_place, value_is}
use Rattle.sparse_board.proofs.lowering.divide.Goals as goal

pub loop-k-init : goal.loop-k-init
loop-k-init c =
    divided_none c.args.row.now c.args.by.now c.clear.new.self c.clear.ensures.empty
    (c.clear.ensures.width ∙ c.requires.width)

pub returns-in_err-quotient-clause-fits : goal.returns-in_err-quotient-clause-fits
returns-in_err-quotient-clause-fits c =
    let b = row_place c.args.row.now c.len-k-end.result c.loop-k.k c.len-k-end.ensures
    c.loop-k-test.true in
    is_ok-err c.from_residual.result c.from_residual.ensures.0
    ∙ sym (divided_refused c.args.row.now c.args.by.now c.loop-k.next c.loop-k.k c.loop-k.invariant
    b c.index-entry.result.now.value (value_is c.args.row.now c.loop-k.k
    c.index-entry.result.now b c.index-entry.ensures) (λ f. c.in_err-quotient.ensures.exact
    (c.requires.nonzero, f)))

pub loop-k-preserved : goal.loop-k-preserved
loop-k-preserved c =
    let b = row_place c.args.row.now c.len-k-end.result c.loop-k.k c.len-k-end.ensures
    c.loop-k-test.true in
    let is = column_is c.args.row.now c.loop-k.k c.index-entry.result.now b c.index-entry.ensures in
    divided_more c.args.row.now c.args.by.now c.loop-k.next c.loop-k.k c.loop-k.invariant b
    c.index-entry.result.now.value (value_is c.args.row.now c.loop-k.k c.index-entry.result.now
    b c.index-entry.ensures) c.in_ok-quotient.quotient c.push_any.new.self
    c.in_ok-quotient.ensures.exact.0.1 c.in_ok-quotient.ensures.exact.1
    (subst (λ x. AppendsNumber x c.in_ok-quotient.quotient c.loop-k.next c.push_any.new.self) is
    c.push_any.ensures)

pub returns-clause-fits : goal.returns-clause-fits
returns-clause-fits c =
    sym (divided_fit c.args.row.now c.args.by.now c.loop-k.next c.loop-k.k c.loop-k.invariant
    (row_end c.args.row.now c.len-k-end.result c.loop-k.k c.len-k-end.ensures
    c.loop-k.auto.k-end c.loop-k-test.false))

pub returns-clause-ok : goal.returns-clause-ok
returns-clause-ok c =
    divided_all c.args.row.now c.args.by.now c.loop-k.next c.loop-k.k c.loop-k.invariant
    (row_end c.args.row.now c.len-k-end.result c.loop-k.k c.len-k-end.ensures
    c.loop-k.auto.k-end c.loop-k-test.false)

pub push_any-requires-clause-within : goal.push_any-requires-clause-within
push_any-requires-clause-within c =
    let row = c.args.row.now in
    let b = row_place row c.len-k-end.result c.loop-k.k c.len-k-end.ensures c.loop-k-test.true in
    let is = column_is row c.loop-k.k c.index-entry.result.now b c.index-entry.ensures in
    subst (λ n. c.index-entry.result.now.column < n) (sym c.loop-k.invariant.width)
    (subst (λ x. x < width_of row) (sym is) (row.within c.loop-k.k b))
