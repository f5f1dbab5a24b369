use Rattle.edit_engine.proofs.TableSteps.{targeted_is}
use Rattle.edit_engine.proofs.tables.targeted.Goals as goal

pub returns-clause-value : goal.returns-clause-value
returns-clause-value c =
    targeted_is c.args.target c.target_table-own.result c.args.table.now
    c.target_table-own.ensures.value
