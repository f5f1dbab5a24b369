use Rattle.std.proofs.Common.{◌≡◌, ◌<◌, ◌∙◌, ap, arith, length, slice_index, slice_index_or, sym}
use Rattle.whole_rows.specs.Rows as whole
use Rattle.sparse_board.specs.Mixed.{is_small}
use Rattle.sparse_board.proofs.RowsSteps.{listed_is, listed_within}
use Rattle.sparse_board.proofs.StaySteps.{small_stays_whole, stay_more, stay_none}
use Rattle.sparse_board.proofs.rows.all_stay.Goals as goal
use Rattle.sparse_board.proofs.rows.all_stay.Goals.{After-index}

-- the row that is looked at
item_is : (c : After-index) → c.index.result.now
    ≡ slice_index c.args.changes.now.rows.items c.loop-k.k
item_is c = listed_is c.args.changes.now c.loop-k.k c.index.result.now c.loop-k-test.true c.index.ensures

item_within : (c : After-index) → c.index.result.now < length c.args.rows.now
item_within c =
    listed_within (length c.args.rows.now) c.loop-k.k c.index.result.now
    c.args.changes.now.rows.items c.args.changes.now.count c.requires.listed c.loop-k-test.true
    (item_is c)

pub loop-k-init : goal.loop-k-init
loop-k-init c =
    stay_none c.args.q c.args.step.now c.args.changes.now.rows.items c.args.rows.now

pub bounds-rows-i : goal.bounds-rows-i
bounds-rows-i c = item_within (goal.at.bounds-rows-i c).After-index

pub loop-k-preserved : goal.loop-k-preserved
loop-k-preserved c =
    let at = (goal.at.loop-k-preserved c).After-index in
    let step = c.args.step.now in
    let row = slice_index_or c.args.rows.now c.index.result.now c.index-rows-i.result in
    let columns_is : c.len-columns.result ≡ whole.width_of step.narrow.row =
    omega (arith, c.len-columns.ensures, step.narrow.row.numbers.ok.0) in
    stay_more c.args.q step c.args.changes.now.rows.items c.args.rows.now c.loop-k.k
    c.index.result.now c.index-rows-i.result c.loop-k.invariant (item_is at) (item_within at)
    (small_stays_whole c.args.q step row.now (sym c.is_unit.ensures ∙ c.if-not-is_unit.false)
    (ap (λ n. is_small n row.now) (sym columns_is) ∙ sym c.is_small.ensures
    ∙ c.if-not-is_small.false)
    (omega (arith, step.room, c.requires.column)))

pub returns : goal.returns
returns c = λ _ l b. c.loop-k.invariant l (omega (arith, b, c.loop-k.auto.k-end, c.loop-k-test.false))
