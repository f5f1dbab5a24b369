use Rattle.std.proofs.Common.{◌≡◌, ◌<◌, arith, length, slice_index, slice_index_or, subst, sym}
use Rattle.sparse_board.specs.Lowering.{IsMixedReady}
use Rattle.sparse_board.proofs.RowsSteps.{changed-all, changed-more, changed-none, listed_is, listed_within, prepared_read, row_before}
use Rattle.sparse_board.proofs.StaySteps.{out_worked, prepared_stay}
use Rattle.sparse_board.proofs.rows.ready_rows.Goals as goal
use Rattle.sparse_board.proofs.rows.ready_rows.Goals.{After-index}

-- the row that is looked at
item_is : (c : After-index) → c.index.result.now
    ≡ slice_index c.args.changes.now.rows.items c.loop-k.k
item_is c = listed_is c.args.changes.now c.loop-k.k c.index.result.now c.loop-k-test.true c.index.ensures

pub loop-k-init : goal.loop-k-init
loop-k-init c = changed-none (IsMixedReady c.args.q c.args.step.now) c.args.changes.now.rows.items c.args.rows.now

pub ready_units-requires-clause-staying : goal.ready_units-requires-clause-staying
ready_units-requires-clause-staying c =
    prepared_stay c.args.q c.args.step.now c.args.changes.now.rows.items c.args.changes.now.count
    c.args.rows.now c.if-step.true c.requires.ready

pub bounds-rows-i : goal.bounds-rows-i
bounds-rows-i c =
    let at = (goal.at.bounds-rows-i c).After-index in
    subst (λ n. c.index.result.now < n) (sym c.loop-k.invariant.long)
    (listed_within (length c.args.rows.now) c.loop-k.k c.index.result.now
    c.args.changes.now.rows.items c.args.changes.now.count c.requires.listed c.loop-k-test.true
    (item_is at))

pub ready-requires : goal.ready-requires
ready-requires c =
    let items = c.args.changes.now.rows.items in
    let at = (goal.at.ready-requires c).After-index in
    let row = slice_index_or c.loop-k.rows c.index.result.now c.index-rows-i.result in
    out_worked c.args.q c.args.step.now row c.if-step.false
    (prepared_read c.args.q c.args.step.now items c.args.changes.now.count c.args.rows.now c.loop-k.k
    c.index.result.now row
    (row_before (IsMixedReady c.args.q c.args.step.now) items c.args.changes.now.count c.args.rows.now
    c.loop-k.rows c.loop-k.k c.loop-k.invariant c.requires.listed c.loop-k-test.true
    c.index.result.now (item_is at) c.index-rows-i.result)
    (item_is at) c.loop-k-test.true c.requires.ready)

pub loop-k-preserved : goal.loop-k-preserved
loop-k-preserved c =
    let at = (goal.at.loop-k-preserved c).After-index in
    changed-more (IsMixedReady c.args.q c.args.step.now) c.args.changes.now.rows.items c.args.changes.now.count
    c.args.rows.now c.loop-k.rows c.loop-k.k c.loop-k.invariant c.requires.listed
    c.loop-k-test.true c.index.result.now (item_is at) c.index-rows-i.result c.ready.new.self
    c.ready.ensures

pub returns : goal.returns
returns c =
    changed-all (IsMixedReady c.args.q c.args.step.now) c.args.changes.now.rows.items c.args.changes.now.count
    c.args.rows.now c.loop-k.rows c.loop-k.k c.loop-k.invariant
    (omega (arith, c.loop-k.auto.k-end, c.loop-k-test.false))
