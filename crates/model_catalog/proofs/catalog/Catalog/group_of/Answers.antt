use Rattle.std.proofs.Common.{List, ap, ◌∙◌}
use Rattle.numbered_list.specs.Numbered.{find}
use Rattle.user_model.specs.declared.group.Group.{Group}
use Rattle.user_model.specs.Edited.{group_number}
use Rattle.model_catalog.specs.declared.variable.Variable.{Variable}
use Rattle.model_catalog.specs.Index.{variable_number}
use Rattle.model_catalog.proofs.Models.{group_of_kept}
use Rattle.model_catalog.proofs.catalog.Catalog.group_of.Goals as goal

pub returns : goal.returns
returns c =
    let variable = c.in_ok-variable.variable.now in
    let there = c.in_ok-variable.ensures in
    let group = c.get-2.ensures in
    rw (← c.self.view_is) (group ∙ group_of_kept c.self.invariant.consistent
    c.self.invariant.index c.args.number variable there)
