use Rattle.std.proofs.Common.{[]}
use Rattle.mapped_model.proofs.Making.{maps_failed}
use Rattle.mapped_model.proofs.mapping.planned_with.Goals as goal

pub planned_by-requires-clause-right : goal.planned_by-requires-clause-right
planned_by-requires-clause-right c =
    record { lines = c.requires.right; maps = c.in-Ok.ensures.0 }

pub planned_by-requires-clause-maps : goal.planned_by-requires-clause-maps
planned_by-requires-clause-maps c = c.in-Ok.ensures.1

pub returns-in-Err : goal.returns-in-Err
returns-in-Err c =
    maps_failed record { model = c.args.model.now.model; parked = [] } c.args.file.now
    c.in-Err.fault c.requires.right c.in-Err.ensures
