use Rattle.std.proofs.Common.{List, ap, sym, ◌∙◌}
use Rattle.numbered_list.specs.Numbered.{find}
use Rattle.model_catalog.specs.declared.variable.Variable.{Variable}
use Rattle.model_catalog.specs.Index.{variable_number}
use Rattle.model_catalog.proofs.Models.{upper_kept, no_upper}
use Rattle.model_catalog.proofs.catalog.Catalog.has_upper_row.Goals as goal

pub returns-in-Some : goal.returns-in-Some
returns-in-Some c =
    let there = c.in-Some.ensures in
    rw (← c.self.view_is) (upper_kept c.self.invariant.consistent
    c.self.invariant.index c.args.number c.in-Some.variable.now there)

pub returns-in-None : goal.returns-in-None
returns-in-None c =
    let none = c.in-None.ensures in
    rw (← c.self.view_is) (sym (no_upper c.self.invariant.consistent
    c.self.invariant.index c.args.number (sym none)))
