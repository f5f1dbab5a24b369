use Rattle.std.proofs.Common.{◌≡◌, sym, ap, subst, ◌∙◌}
use Rattle.user_model.specs.Model.{ModelValue}
use Rattle.user_model.specs.Undone.{before}
use Rattle.user_model.specs.Valid.{HasValidParts}
use Rattle.model_store.specs.Store.{StoredModel}
use Rattle.model_store.proofs.RoomLaws.{entry_room, entry_taken, exchange_of, parked_less}
use Rattle.model_store.proofs.store.UserModel.take_back.Goals as goal

pub exchange-requires-clause-changes : goal.exchange-requires-clause-changes
exchange-requires-clause-changes c =
    exchange_of c.from.result c.args.undo c.take_last.result c.self.inside.catalog.model
    c.from.ensures (entry_taken c.self.inside c.args.self.now c.requires.last.0
    c.take_last.new.parked.items c.take_last.result c.args.undo c.self.view_is
    c.requires.last.1 c.take_last.ensures.last)

pub exchange-requires-clause-room : goal.exchange-requires-clause-room
exchange-requires-clause-room c =
    entry_room c.self.inside c.self.invariant c.take_last.new.parked.items c.take_last.result
    c.take_last.ensures.last c.from.result c.args.undo c.from.ensures (entry_taken c.self.inside
    c.args.self.now c.requires.last.0 c.take_last.new.parked.items c.take_last.result c.args.undo
    c.self.view_is c.requires.last.1 c.take_last.ensures.last)

pub invariant_of-self : goal.invariant_of-self
invariant_of-self c =
    let model : c.exchange.new.self.model ≡ before c.args.self.now.model c.args.undo =
    c.exchange.ensures.model ∙ (ap (before c.self.inside.catalog.model) c.from.ensures ∙ ap
    (λ (s : StoredModel). before s.model c.args.undo) c.self.view_is) in
    record {
      room = parked_less c.self.inside c.self.invariant c.take_last.new.parked.items
          c.take_last.result c.take_last.ensures.last c.take_last.new.names
          c.exchange.new.self.room c.take_last.ensures.counted c.exchange.ensures.kept;
      parts = subst (λ (m : ModelValue). HasValidParts m.groups m.rows m.objective) (sym model)
          c.requires.edit.valid.parts;
    }

pub returns-clause-parked : goal.returns-clause-parked
returns-clause-parked c =
    (c.take_last.result, sym (ap (λ s. s.parked) c.self.view_is) ∙ c.take_last.ensures.last)
