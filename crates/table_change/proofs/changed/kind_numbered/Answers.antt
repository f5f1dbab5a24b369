use Rattle.table_change.proofs.ChangedSteps.{number_there}
use Rattle.table_change.proofs.changed.kind_numbered.Goals as goal

pub returns : goal.returns
returns c = number_there c.args.n _ c.requires
