use Rattle.std.proofs.Common.{◌≡◌, ◌<◌, arith, length, slice_index, subst, sym}
use Rattle.sparse_board.specs.Lowering.{IsMixedReady}
use Rattle.sparse_board.proofs.RowsSteps.{changed-all, changed-more, changed-none, listed_is, listed_within, row_before}
use Rattle.sparse_board.proofs.StaySteps.{stay_read}
use Rattle.sparse_board.proofs.rows.ready_units.Goals as goal
use Rattle.sparse_board.proofs.rows.ready_units.Goals.{After-index}

-- the row that is looked at
item_is : (c : After-index) → c.index.result.now
    ≡ slice_index c.args.changes.now.rows.items c.loop-k.k
item_is c = listed_is c.args.changes.now c.loop-k.k c.index.result.now c.loop-k-test.true c.index.ensures

pub loop-k-init : goal.loop-k-init
loop-k-init c = changed-none (IsMixedReady c.args.q c.args.step.now) c.args.changes.now.rows.items c.args.rows.now

pub bounds-rows-i : goal.bounds-rows-i
bounds-rows-i c =
    let at = (goal.at.bounds-rows-i c).After-index in
    subst (λ n. c.index.result.now < n) (sym c.loop-k.invariant.long)
    (listed_within (length c.args.rows.now) c.loop-k.k c.index.result.now
    c.args.changes.now.rows.items c.args.changes.now.count c.requires.listed c.loop-k-test.true
    (item_is at))

pub ready_unit-requires : goal.ready_unit-requires
ready_unit-requires c =
    let items = c.args.changes.now.rows.items in
    let at = (goal.at.ready_unit-requires c).After-index in
    stay_read c.args.q c.args.step.now items c.args.changes.now.count c.args.rows.now c.loop-k.k
    c.index.result.now _
    (row_before (IsMixedReady c.args.q c.args.step.now) items c.args.changes.now.count c.args.rows.now
    c.loop-k.rows c.loop-k.k c.loop-k.invariant c.requires.listed c.loop-k-test.true
    c.index.result.now (item_is at) c.index-rows-i.result)
    (item_is at) c.loop-k-test.true c.requires.staying

pub loop-k-preserved : goal.loop-k-preserved
loop-k-preserved c =
    let at = (goal.at.loop-k-preserved c).After-index in
    changed-more (IsMixedReady c.args.q c.args.step.now) c.args.changes.now.rows.items c.args.changes.now.count
    c.args.rows.now c.loop-k.rows c.loop-k.k c.loop-k.invariant c.requires.listed
    c.loop-k-test.true c.index.result.now (item_is at) c.index-rows-i.result c.ready_unit.new.self
    c.ready_unit.ensures

pub returns : goal.returns
returns c =
    changed-all (IsMixedReady c.args.q c.args.step.now) c.args.changes.now.rows.items c.args.changes.now.count
    c.args.rows.now c.loop-k.rows c.loop-k.k c.loop-k.invariant
    (omega (arith, c.loop-k.auto.k-end, c.loop-k-test.false))
