use Rattle.std.specs.Prelude.{◌≡◌, filter}
use Rattle.std.proofs.Common.{rules, sym, ap, ◌∙◌}
use Rattle.std.specs.FinMap.{entries}
use Rattle.aff_core.specs.Address.{address_total}
use Rattle.aff_core.specs.Terms.{is_nonzero}
use Rattle.map_laws.specs.MadeLaws.{entries_made}
use Rattle.aff_core.proofs.by_address.Point.nonzero_terms.Goals as goal

pub returns : goal.returns
returns c =
    let whole : c.in_ok-collect.field-0.items ≡ filter is_nonzero c.self.inside.entries.entries =
    search rules in
    whole ∙ ap (filter is_nonzero) (sym (entries_made address_total c.self.inside.entries.entries
    c.iter.ensures.ordered) ∙ ap entries c.self.view_is)
