use Rattle.std.proofs.Common.{◌∙◌, ap, subst}
use Rattle.model_catalog.specs.Catalog.{Catalog}
use Rattle.model_catalog.specs.Exchange.{IsNoLess}
use Rattle.model_store.proofs.parking.reserve.Goals as goal

pub returns-clause-model : goal.returns-clause-model
returns-clause-model c =
    c.make_room.ensures.model ∙ ap (λ (x : Catalog). x.model) c.sweep_settled.ensures

pub returns-clause-room : goal.returns-clause-room
returns-clause-room c =
    subst (λ (x : Catalog). IsNoLess x.room c.make_room.new.catalog.room) c.sweep_settled.ensures
    c.make_room.ensures.room
