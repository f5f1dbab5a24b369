use Rattle.model_catalog.proofs.TableNames.{name_of_is, taken_names}
use Rattle.model_catalog.proofs.names.take_name.Goals as goal

pub returns-clause-value : goal.returns-clause-value
returns-clause-value c =
    name_of_is c.args.table.now.numbers c.requires.one_to_one c.args.number c.remove.result
    c.remove.ensures.value

pub returns-clause-names : goal.returns-clause-names
returns-clause-names c =
    taken_names c.args.table.now.numbers c.remove.new.self.numbers c.args.number c.remove.result
    c.remove.ensures.one_to_one c.requires.one_to_one (returns-clause-value c)
    c.remove.ensures.removed c.remove.ensures.absent
