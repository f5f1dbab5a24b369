use Rattle.std.proofs.Common.{◌∙◌}
use Rattle.model_catalog.proofs.TableNames.{name_of_is}
use Rattle.model_catalog.proofs.catalog.Catalog.variable_name.Goals as goal

pub returns : goal.returns
returns c =
    rw (← c.self.view_is) (name_of_is c.self.inside.variable_names.numbers c.name.ensures.one_to_one
    c.args.number _ c.name.ensures.value ∙ c.self.invariant.variable_names.names
    c.args.number)
