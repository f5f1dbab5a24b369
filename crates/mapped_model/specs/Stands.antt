-- What the model with the mapped rows stands for: the model with each used row in its cone seen through
-- its map.
use Rattle.std.specs.Prelude.{◌≡◌, List}
use Rattle.mapped_certificates.specs.GoodSeen.{Use, rows_seen}
use Rattle.mapped_certificates.specs.TakenBack.{StandForSeen}
use Rattle.user_model.specs.Model.{ModelValue}

pub record StandsFor (model : ModelValue) (uses : List Use) (new : ModelValue) : Type 0 where
  pub groups : new.groups ≡ model.groups
  pub objective : new.objective ≡ model.objective
  pub rows : StandForSeen new.rows (rows_seen model.rows uses)
