use Rattle.std.proofs.Common.{sym, subst, ◌∙◌}
use Rattle.numbered_list.specs.Numbered.{IsAt}
use Rattle.item_map.specs.ItemLists.{HasRoomAt, IsItemWith, IsSetAt, item_number}
use Rattle.item_map.proofs.ChangeLaws.{put_changed, put_order, put_room}
use Rattle.item_map.proofs.roots.ByRoot.put.Goals as goal
use Rattle.item_map.proofs.roots.ByRoot.put.Goals.{After-exchange}

pub exchange-requires-clause-own : goal.exchange-requires-clause-own
exchange-requires-clause-own g c =
    subst (λ n. IsAt item_number n c.item_with-item.result) (c.number.ensures ∙ sym c.number-2.ensures)
    c.item_with-item.ensures.at

pub exchange-requires-clause-room : goal.exchange-requires-clause-room
exchange-requires-clause-room g c = λ some.
    subst (λ r. HasRoomAt c.args.self.now r c.number-2.result) (sym c.kind.ensures)
    (subst (λ n. HasRoomAt c.args.self.now c.args.at.now.root n) (sym c.number-2.ensures)
    c.requires.room)

with : (g : _) (c : After-exchange g)
    → IsItemWith c.args.at.now.number c.args.entries c.item_with-item.result
with g c =
    subst (λ n. IsItemWith n c.args.entries c.item_with-item.result) c.number.ensures
    c.item_with-item.ensures

set : (g : _) (c : After-exchange g) → IsSetAt c.args.at.now.root c.args.at.now.number
    c.item_with-item.result c.args.self.now c.exchange.new.self
set g c =
    subst (λ r. IsSetAt r c.args.at.now.number c.item_with-item.result c.args.self.now
    c.exchange.new.self) c.kind.ensures
    (subst (λ n. IsSetAt c.kind.result n c.item_with-item.result c.args.self.now
    c.exchange.new.self) c.number-2.ensures c.exchange.ensures.set)

pub returns-clause-put : goal.returns-clause-put
returns-clause-put g c =
    let d = (goal.at.returns-clause-put g c).After-exchange in
    put_changed c.args.at.now c.args.self.now c.exchange.new.self c.args.entries
    c.item_with-item.result (with g d) (set g d)

pub returns-clause-order : goal.returns-clause-order
returns-clause-order g c =
    let d = (goal.at.returns-clause-order g c).After-exchange in
    put_order c.args.at.now c.args.self.now c.exchange.new.self c.requires.order c.requires.room
    c.args.entries c.item_with-item.result (with g d) c.requires.own (set g d)

pub returns-clause-spare : goal.returns-clause-spare
returns-clause-spare g c = λ more.
    put_room c.args.self.now c.exchange.new.self c.args.at.now.root c.args.at.now.number more
    c.requires.order c.item_with-item.result
    (set g (goal.at.returns-clause-spare g c).After-exchange)
