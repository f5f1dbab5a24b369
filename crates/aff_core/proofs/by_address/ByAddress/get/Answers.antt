use Rattle.std.proofs.Common.{sym, ap, ◌∙◌}
use Rattle.std.specs.FinMap as finite
use Rattle.aff_core.specs.Address.{address_total}
use Rattle.map_laws.specs.MadeLaws.{get_made}
use Rattle.aff_core.proofs.by_address.ByAddress.get.Goals as goal

pub returns : goal.returns
returns g c =
    c.get.ensures.value ∙ sym (get_made address_total c.self.inside.entries.entries c.args.at.now)
    ∙ ap (λ m. finite.get m c.args.at.now) c.self.view_is
