use Rattle.std.proofs.Common.{List, None, Some, ap, ◌∙◌}
use Rattle.numbered_list.specs.Numbered.{find}
use Rattle.user_model.specs.declared.row.Row.{Row}
use Rattle.user_model.specs.Edited.{row_number}
use Rattle.model_catalog.proofs.Models.{row_looked_up}
use Rattle.model_catalog.proofs.catalog.Catalog.row.Goals as goal

pub returns-in_err-number : goal.returns-in_err-number
returns-in_err-number c =
    rw (c.from_residual.ensures, ← c.self.view_is)
    (row_looked_up c.self.invariant.consistent c.self.invariant.row_names
    c.args.name.now None c.in_err-number.ensures.value)

pub returns : goal.returns
returns c =
    rw (← c.self.view_is)
    (c.get.ensures ∙ row_looked_up c.self.invariant.consistent c.self.invariant.row_names
    c.args.name.now (Some c.in_ok-number.number) c.in_ok-number.ensures.value)
