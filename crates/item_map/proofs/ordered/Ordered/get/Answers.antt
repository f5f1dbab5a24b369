use Rattle.std.specs.Prelude.{◌≡◌}
use Rattle.std.proofs.Common.{sym, ap, ◌∙◌}
use Rattle.std.specs.FinMap as finite
use Rattle.aff_core.specs.Address.{address_cmp}
use Rattle.item_map.proofs.GapLaws.{entries_kept}
use Rattle.item_map.proofs.ordered.Ordered.get.Goals as goal

pub returns : goal.returns
returns g c =
    let mine : c.self.inside.entries ≡ finite.entries c.args.self.now =
    sym (entries_kept c.self.inside.entries c.self.invariant) ∙ ap finite.entries c.self.view_is in
    c.find.ensures c.self.invariant ∙ ap (finite.find address_cmp c.args.at.now) mine
    ∙ sym (finite.get-entries c.args.self.now c.args.at.now)
