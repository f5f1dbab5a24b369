use Rattle.edit_engine.proofs.TableSteps.{free_other}
use Rattle.edit_engine.proofs.tables.free_with.Goals as goal

pub returns-in_default-clause-value : goal.returns-in_default-clause-value
returns-in_default-clause-value c =
    free_other c.args.kind c.args.value c.args.supported c.in_default.not-GroupReals
