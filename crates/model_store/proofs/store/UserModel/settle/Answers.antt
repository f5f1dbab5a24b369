use Rattle.std.proofs.Common.{sym, ap, ◌∙◌}
use Rattle.model_store.proofs.RoomLaws.{parked_settled}
use Rattle.model_store.proofs.store.UserModel.settle.Goals as goal

pub invariant_of-self : goal.invariant_of-self
invariant_of-self c =
    record {
      room = parked_settled c.self.inside c.self.invariant c.take_last.new.parked.items
          c.take_last.result c.take_last.ensures.last c.take_last.new.names
          c.take_last.ensures.counted;
      parts = c.self.invariant.parts;
    }

pub returns-clause-parked : goal.returns-clause-parked
returns-clause-parked c =
    (c.take_last.result, sym (ap (λ s. s.parked) c.self.view_is) ∙ c.take_last.ensures.last)
