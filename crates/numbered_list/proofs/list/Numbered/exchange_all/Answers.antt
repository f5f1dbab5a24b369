use Rattle.std.specs.Prelude.{is_some}
use Rattle.std.proofs.Common.{arith, ap, sym, ◌∙◌}
use Rattle.numbered_list.specs.ExchangeLaws.{next, one_more, done}
use Rattle.numbered_list.proofs.list.Numbered.exchange_all.Goals as goal

pub exchange-requires-clause-room : goal.exchange-requires-clause-room
exchange-requires-clause-room g c =
    let step = next g.X.HasNumber.number_of c.args.self.now.items c.loop-change.self.items
    c.args.changes.now c.loop-change.changes c.loop-change.change-index
    c.loop-change.self.room c.args.self.now.room c.change-item.result
    c.loop-change.invariant (omega arith) in
    λ some none. omega (
      arith,
      step.room (ap is_some (sym c.take.ensures.value) ∙ some) none,
    )

pub loop-change-preserved : goal.loop-change-preserved
loop-change-preserved g c =
    one_more g.X.HasNumber.number_of c.args.self.now.items c.loop-change.self.items
    c.exchange.new.self.items c.args.changes.now c.loop-change.changes
    c.loop-change.change-index c.loop-change.self.room
    c.exchange.new.self.room c.args.self.now.room c.change-item.result
    c.take.result c.exchange.result
    c.loop-change.invariant (omega arith) c.take.ensures.value c.exchange.ensures.before
    c.exchange.ensures.after c.exchange.ensures.room

pub returns-clause-changes : goal.returns-clause-changes
returns-clause-changes g c =
    (done g.X.HasNumber.number_of c.args.self.now.items c.loop-change.self.items
    c.args.changes.now c.loop-change.changes c.loop-change.change-index
    c.loop-change.self.room c.args.self.now.room c.loop-change.invariant
    (omega arith) c.iter-rising.ensures.rising c.requires.changes
    (omega (arith, c.requires.room))).are

pub returns-clause-room : goal.returns-clause-room
returns-clause-room g c =
    let end = done g.X.HasNumber.number_of c.args.self.now.items c.loop-change.self.items
    c.args.changes.now c.loop-change.changes c.loop-change.change-index
    c.loop-change.self.room c.args.self.now.room c.loop-change.invariant
    (omega arith) c.iter-rising.ensures.rising c.requires.changes
    (omega (arith, c.requires.room)) in
    omega (arith, end.room)
