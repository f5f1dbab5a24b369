use Rattle.std.proofs.Common.{sym, ap, subst, ◌∙◌}
use Rattle.numbered_list.specs.Numbered.{find}
use Rattle.item_map.specs.ItemLists.{HasRoomAt, IsSetAt, item_number, items_of}
use Rattle.item_map.proofs.RootLaws.{set_variables, set_groups, set_rows, set_objectives}
use Rattle.item_map.proofs.roots.ByRoot.exchange.Goals as goal

pub exchange-requires-clause-room : goal.exchange-requires-clause-room
exchange-requires-clause-room g c = λ some.
    subst (λ r. HasRoomAt c.args.self.now r c.args.number) c.in-Variable.is (c.requires.room some)

pub returns-in-Variable-clause-before : goal.returns-in-Variable-clause-before
returns-in-Variable-clause-before g c =
    c.exchange.ensures.before
    ∙ ap (λ r. find item_number c.args.number (items_of c.args.self.now r)) (sym c.in-Variable.is)

pub returns-in-Variable-clause-set : goal.returns-in-Variable-clause-set
returns-in-Variable-clause-set g c =
    subst (λ r. IsSetAt r c.args.number c.args.new c.args.self.now
    (record c.args.self.now { variables = c.exchange.new.self })) (sym c.in-Variable.is)
    (set_variables c.args.self.now c.args.number c.args.new c.exchange.new.self
    c.exchange.ensures.after c.exchange.ensures.room)

pub exchange-requires-in-Group-clause-room : goal.exchange-requires-in-Group-clause-room
exchange-requires-in-Group-clause-room g c = λ some.
    subst (λ r. HasRoomAt c.args.self.now r c.args.number) c.in-Group.is (c.requires.room some)

pub returns-in-Group-clause-before : goal.returns-in-Group-clause-before
returns-in-Group-clause-before g c =
    c.exchange-in-Group.ensures.before
    ∙ ap (λ r. find item_number c.args.number (items_of c.args.self.now r)) (sym c.in-Group.is)

pub returns-in-Group-clause-set : goal.returns-in-Group-clause-set
returns-in-Group-clause-set g c =
    subst (λ r. IsSetAt r c.args.number c.args.new c.args.self.now
    (record c.args.self.now { groups = c.exchange-in-Group.new.self })) (sym c.in-Group.is)
    (set_groups c.args.self.now c.args.number c.args.new c.exchange-in-Group.new.self
    c.exchange-in-Group.ensures.after c.exchange-in-Group.ensures.room)

pub exchange-requires-in-Row-clause-room : goal.exchange-requires-in-Row-clause-room
exchange-requires-in-Row-clause-room g c = λ some.
    subst (λ r. HasRoomAt c.args.self.now r c.args.number) c.in-Row.is (c.requires.room some)

pub returns-in-Row-clause-before : goal.returns-in-Row-clause-before
returns-in-Row-clause-before g c =
    c.exchange-in-Row.ensures.before
    ∙ ap (λ r. find item_number c.args.number (items_of c.args.self.now r)) (sym c.in-Row.is)

pub returns-in-Row-clause-set : goal.returns-in-Row-clause-set
returns-in-Row-clause-set g c =
    subst (λ r. IsSetAt r c.args.number c.args.new c.args.self.now
    (record c.args.self.now { rows = c.exchange-in-Row.new.self })) (sym c.in-Row.is)
    (set_rows c.args.self.now c.args.number c.args.new c.exchange-in-Row.new.self
    c.exchange-in-Row.ensures.after c.exchange-in-Row.ensures.room)

pub exchange-requires-in-Objective-clause-room : goal.exchange-requires-in-Objective-clause-room
exchange-requires-in-Objective-clause-room g c = λ some.
    subst (λ r. HasRoomAt c.args.self.now r c.args.number) c.in-Objective.is (c.requires.room some)

pub returns-in-Objective-clause-before : goal.returns-in-Objective-clause-before
returns-in-Objective-clause-before g c =
    c.exchange-in-Objective.ensures.before
    ∙ ap (λ r. find item_number c.args.number (items_of c.args.self.now r)) (sym c.in-Objective.is)

pub returns-in-Objective-clause-set : goal.returns-in-Objective-clause-set
returns-in-Objective-clause-set g c =
    subst (λ r. IsSetAt r c.args.number c.args.new c.args.self.now
    (record c.args.self.now { objectives = c.exchange-in-Objective.new.self })) (sym c.in-Objective.is)
    (set_objectives c.args.self.now c.args.number c.args.new c.exchange-in-Objective.new.self
    c.exchange-in-Objective.ensures.after c.exchange-in-Objective.ensures.room)
