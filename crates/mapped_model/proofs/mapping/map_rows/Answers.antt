use Rattle.mapped_model.proofs.Making.{unplanned}
use Rattle.mapped_model.proofs.mapping.map_rows.Goals as goal

pub made-requires-clause-planned : goal.made-requires-clause-planned
made-requires-clause-planned c = c.in-Ok.ensures

pub returns-in-Err-clause-maps : goal.returns-in-Err-clause-maps
returns-in-Err-clause-maps c =
    unplanned c.args.model.now c.args.file c.in-Err.fault c.args.model.now c.in-Err.ensures
