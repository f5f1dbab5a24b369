use Rattle.std.proofs.Common.{◌≡◌, ◌<◌, arith, length, slice_index, subst, sym}
use Rattle.sparse_board.proofs.TestSteps.{refused_on}
use Rattle.sparse_board.proofs.RowsSteps.{listed_is, listed_within, prepared-all, prepared-more, prepared-none, prepared_stays, prepared_wide, rows-refused}
use Rattle.sparse_board.proofs.StaySteps.{stay_prepared, stay_to, worked_out}
use Rattle.sparse_board.proofs.rows.prepare_rows.Goals as goal
use Rattle.sparse_board.proofs.rows.prepare_rows.Goals.{After-index}

-- the row that is looked at
item_is : (c : After-index) → c.index.result.now
    ≡ slice_index c.args.changes.now.rows.items c.loop-k.k
item_is c = listed_is c.args.changes.now c.loop-k.k c.index.result.now c.loop-k-test.true c.index.ensures

item_within : (c : After-index) → c.index.result.now < length c.args.rows.now
item_within c =
    listed_within (length c.args.rows.now) c.loop-k.k c.index.result.now
    c.args.changes.now.rows.items c.args.changes.now.count c.requires.listed c.loop-k-test.true
    (item_is c)

pub loop-k-init : goal.loop-k-init
loop-k-init c =
    prepared-none c.args.step.now.width c.args.q c.args.step.now c.args.changes.now.rows.items
    c.args.rows.now

pub bounds-rows-i : goal.bounds-rows-i
bounds-rows-i c =
    subst (λ n. c.index.result.now < n) (sym c.loop-k.invariant.long)
    (item_within (goal.at.bounds-rows-i c).After-index)

pub prepare-requires-clause-width : goal.prepare-requires-clause-width
prepare-requires-clause-width c = omega (
  arith,
  prepared_wide c.args.step.now.width c.args.q c.args.step.now c.args.changes.now.rows.items
      c.args.rows.now c.loop-k.rows c.loop-k.k c.loop-k.invariant c.requires.wide
      c.index.result.now c.index-rows-i.result
      (item_within (goal.at.prepare-requires-clause-width c).After-index),
)

pub loop-k-preserved : goal.loop-k-preserved
loop-k-preserved c =
    let step = c.args.step.now in
    let at = (goal.at.loop-k-preserved c).After-index in
    prepared-more step.width c.args.q step c.args.changes.now.rows.items c.args.rows.now
    c.loop-k.rows c.loop-k.k c.loop-k.invariant c.requires.wide c.index.result.now
    c.index-rows-i.result (item_within at) c.prepare.new.self (item_is at)
    c.in_ok-prepare.ensures.stays (sym c.in_ok-prepare.ensures.fits)
    (worked_out c.args.q step c.prepare.new.self c.if-step.false c.in_ok-prepare.ensures.ok)

pub returns-in_err-prepare-clause-stays : goal.returns-in_err-prepare-clause-stays
returns-in_err-prepare-clause-stays c =
    let step = c.args.step.now in
    prepared_stays step.width c.args.q step c.args.changes.now.rows.items c.args.rows.now
    c.loop-k.rows c.loop-k.k c.loop-k.invariant c.requires.wide c.index.result.now
    c.index-rows-i.result
    (item_within (goal.at.returns-in_err-prepare-clause-stays c).After-index) c.prepare.new.self
    c.in_err-prepare.ensures.stays

pub returns-in_err-prepare-clause-fits : goal.returns-in_err-prepare-clause-fits
returns-in_err-prepare-clause-fits c = λ r lists.
    let step = c.args.step.now in
    let at = (goal.at.returns-in_err-prepare-clause-fits c).After-index in
    refused_on c.from_residual.result _ _ _ c.from_residual.ensures.1
    (λ e. rows-refused step.width c.args.q step c.args.changes.now.rows.items c.args.rows.now
    c.loop-k.rows c.loop-k.k c.loop-k.invariant c.requires.wide c.index.result.now
    c.index-rows-i.result (item_within at) r
    (subst (λ i. ¬ (i ≡ r)) (sym (item_is at)) (lists.others c.loop-k.k c.loop-k-test.true))
    (sym e)) c.in_err-prepare.ensures.fits

pub returns-clause-fits : goal.returns-clause-fits
returns-clause-fits c = λ r lists.
    let step = c.args.step.now in
    prepared-all step.width c.args.q step c.args.changes.now.rows.items c.args.rows.now
    c.loop-k.rows c.loop-k.k c.loop-k.invariant c.requires.wide r c.args.changes.now.count
    (omega (arith, c.loop-k-test.false)) lists

pub returns-clause-ok : goal.returns-clause-ok
returns-clause-ok c = λ l b. c.loop-k.invariant.prepared l (omega (arith, b, c.loop-k-test.false))

pub returns-then-step-clause-fits : goal.returns-then-step-clause-fits
returns-then-step-clause-fits c = λ r lists.
    let step = c.args.step.now in
    let items = c.args.changes.now.rows.items in
    let count = c.args.changes.now.count in
    prepared-all step.width c.args.q step items c.args.rows.now c.args.rows.now count
    (stay_to step.width c.args.q step c.requires.column items count c.args.rows.now c.requires.wide
    c.requires.listed c.if-step.true (c.requires.staying c.if-step.true))
    c.requires.wide r count (omega arith) lists

pub returns-then-step-clause-ok : goal.returns-then-step-clause-ok
returns-then-step-clause-ok c =
    stay_prepared c.args.q c.args.step.now c.args.changes.now.rows.items c.args.changes.now.count
    c.args.rows.now c.if-step.true (c.requires.staying c.if-step.true)
