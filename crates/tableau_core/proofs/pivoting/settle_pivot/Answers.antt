use Rattle.std.proofs.Common.{arith, length, refl, subst, ◌≤◌}
use Rattle.tableau_core.specs.Rows.{AreWide}
use Rattle.tableau_core.proofs.SettleSteps.{room-long, settled-all, settled-wide}
use Rattle.tableau_core.proofs.pivoting.settle_pivot.Goals as goal

pub returns-clause-settled : goal.returns-clause-settled
returns-clause-settled c =
    let step = c.args.step.now.items in
    let costs = c.args.costs.now in
    let first_long : length costs.first.now.items ≤ length step =
    omega (arith, c.requires.first_long, c.requires.step_long) in
    let second_long : length costs.second.now.items ≤ length step =
    omega (arith, c.requires.step_long) in
    settled-all c.args.rows.now c.settle_rows.new.rows c.args.r c.args.q step c.exchange.new.self
    c.settle_rows.auto.rows c.requires.row c.exchange.ensures.now
    (length costs.second.now.items) costs
    c.settle.new.self.first.now.items c.settle.new.self.second.now.items
    (subst (λ n. AreWide n c.args.rows.now) c.requires.step_long c.requires.wide)
    c.requires.first_long refl c.requires.ready
    (c.settle_rows.ensures.lowered step c.requires.wide c.requires.covers c.requires.ready.others)
    (λ u. c.settle.ensures.first_lowered u step first_long c.requires.covers
    (c.requires.ready.first_ready u))
    (c.settle.ensures.second_lowered step second_long c.requires.covers
    c.requires.ready.second_ready)

pub returns-clause-wide : goal.returns-clause-wide
returns-clause-wide c =
    settled-wide c.args.rows.now c.settle_rows.new.rows c.args.r c.args.q c.args.step.now.items
    c.exchange.new.self c.settle_rows.auto.rows c.requires.row c.exchange.ensures.now _ refl
    c.requires.wide (c.settle_rows.ensures.lowered c.args.step.now.items c.requires.wide
    c.requires.covers c.requires.ready.others)

pub returns-clause-step_long : goal.returns-clause-step_long
returns-clause-step_long c =
    room-long c.args.rows.now c.settle_rows.new.rows c.args.r c.index-rows-r.result
    c.exchange.new.step.items _ c.settle_rows.auto.rows c.requires.row c.exchange.ensures.step
    c.settle_rows.ensures.stays c.requires.wide
