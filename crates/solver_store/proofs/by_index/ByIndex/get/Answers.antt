use Rattle.std.proofs.Common.{sym, ap, ◌∙◌}
use Rattle.std.specs.FinMap as finite
use Rattle.std.specs.Cmp.{nat_cmp_total}
use Rattle.map_laws.specs.MadeLaws.{get_made}
use Rattle.solver_store.proofs.by_index.ByIndex.get.Goals as goal

pub returns : goal.returns
returns g c =
    c.get.ensures.value ∙ sym (get_made nat_cmp_total c.self.inside.entries.entries c.args.i)
    ∙ ap (λ m. finite.get m c.args.i) c.self.view_is
