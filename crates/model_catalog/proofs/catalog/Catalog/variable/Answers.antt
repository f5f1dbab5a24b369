use Rattle.std.proofs.Common.{◌∙◌}
use Rattle.model_catalog.proofs.Models.{variable_looked_up}
use Rattle.model_catalog.proofs.catalog.Catalog.variable.Goals as goal

pub returns : goal.returns
returns c =
    rw (← c.self.view_is) (c.id.ensures.value ∙ variable_looked_up c.self.invariant.consistent
    c.self.invariant.variable_names c.args.name.now)
