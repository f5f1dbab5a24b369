use Rattle.std.specs.Prelude.{◌≡◌, None}
use Rattle.std.proofs.Common.{sym, ap, subst, ◌∙◌}
use Rattle.numbered_list.specs.Numbered.{find}
use Rattle.item_map.specs.ItemLists.{IsSetAt, entries_in, item_number, items_of, own}
use Rattle.item_map.proofs.ChangeLaws.{room_left, taken_changed, taken_order, taken_room}
use Rattle.item_map.proofs.roots.ByRoot.take.Goals as goal
use Rattle.item_map.proofs.roots.ByRoot.take.Goals.{After-exchange}

set : (g : _) (c : After-exchange g)
    → IsSetAt c.args.at.now.root c.args.at.now.number None c.args.self.now c.exchange.new.self
set g c =
    subst (λ r. IsSetAt r c.args.at.now.number None c.args.self.now c.exchange.new.self)
    c.kind.ensures
    (subst (λ n. IsSetAt c.kind.result n None c.args.self.now c.exchange.new.self) c.number.ensures
    c.exchange.ensures.set)

before : (g : _) (c : After-exchange g) → c.exchange.result ≡ own c.args.self.now c.args.at.now
before g c =
    c.exchange.ensures.before
    ∙ (λ i. find item_number (c.number.ensures i) (items_of c.args.self.now (c.kind.ensures i)))

pub returns-in-Some-clause-entries : goal.returns-in-Some-clause-entries
returns-in-Some-clause-entries g c =
    ap entries_in (sym c.in-Some.is
    ∙ before g (goal.at.returns-in-Some-clause-entries g c).After-exchange)

pub returns-in-None-clause-entries : goal.returns-in-None-clause-entries
returns-in-None-clause-entries g c =
    c.new.ensures ∙ ap entries_in (sym c.in-None.is
    ∙ before g (goal.at.returns-in-None-clause-entries g c).After-exchange)

pub returns-in-Some-clause-taken : goal.returns-in-Some-clause-taken
returns-in-Some-clause-taken g c =
    taken_changed c.args.at.now c.args.self.now c.exchange.new.self
    (set g (goal.at.returns-in-Some-clause-taken g c).After-exchange)

pub returns-in-Some-clause-order : goal.returns-in-Some-clause-order
returns-in-Some-clause-order g c =
    taken_order c.args.at.now c.args.self.now c.exchange.new.self c.requires.order c.requires.room
    (set g (goal.at.returns-in-Some-clause-order g c).After-exchange)

pub returns-in-Some-clause-room : goal.returns-in-Some-clause-room
returns-in-Some-clause-room g c =
    room_left c.args.at.now c.args.self.now c.exchange.new.self
    (set g (goal.at.returns-in-Some-clause-room g c).After-exchange) c.requires.order
    c.requires.room

pub returns-in-None-clause-taken : goal.returns-in-None-clause-taken
returns-in-None-clause-taken g c =
    taken_changed c.args.at.now c.args.self.now c.exchange.new.self
    (set g (goal.at.returns-in-None-clause-taken g c).After-exchange)

pub returns-in-None-clause-order : goal.returns-in-None-clause-order
returns-in-None-clause-order g c =
    taken_order c.args.at.now c.args.self.now c.exchange.new.self c.requires.order c.requires.room
    (set g (goal.at.returns-in-None-clause-order g c).After-exchange)

pub returns-in-None-clause-room : goal.returns-in-None-clause-room
returns-in-None-clause-room g c =
    room_left c.args.at.now c.args.self.now c.exchange.new.self
    (set g (goal.at.returns-in-None-clause-room g c).After-exchange) c.requires.order
    c.requires.room

pub returns-in-Some-clause-spare : goal.returns-in-Some-clause-spare
returns-in-Some-clause-spare g c = λ more.
    taken_room c.args.self.now c.exchange.new.self c.args.at.now.root c.args.at.now.number more
    c.requires.order (set g (goal.at.returns-in-Some-clause-spare g c).After-exchange)

pub returns-in-None-clause-spare : goal.returns-in-None-clause-spare
returns-in-None-clause-spare g c = λ more.
    taken_room c.args.self.now c.exchange.new.self c.args.at.now.root c.args.at.now.number more
    c.requires.order (set g (goal.at.returns-in-None-clause-spare g c).After-exchange)
