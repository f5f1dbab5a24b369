use Rattle.edit_engine.proofs.TableSteps.{still_costs}
use Rattle.edit_engine.proofs.tables.costing.Goals as goal

pub returns-clause-costs : goal.returns-clause-costs
returns-clause-costs c =
    still_costs c.args.edge c.get.result c.args.table.now c.get.ensures.within c.requires.costs
