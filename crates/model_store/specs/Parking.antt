-- What the stored model is, and what holds of it.
use Rattle.user_model.specs.Valid.{HasValidParts}
use Rattle.model_store.specs.declared.store.UserModel.TheInside.{Inside}
use Rattle.model_store.specs.Store.{StoredModel}
use Rattle.model_store.specs.Rooms.{IsParked}

abbrev pub stored_of : Inside → StoredModel
stored_of a = record { model = a.catalog.model; parked = a.parked.items }

-- there is room for each entry, and each part of the model is valid
pub record IsStoreSound (a : Inside) : Type 0 where
  pub room : IsParked a.parked.items a.names a.catalog.room
  pub parts : HasValidParts a.catalog.model.groups a.catalog.model.rows a.catalog.model.objective
