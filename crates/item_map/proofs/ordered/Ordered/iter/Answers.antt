use Rattle.std.proofs.Common.{sym, ap, ◌∙◌}
use Rattle.std.specs.FinMap as finite
use Rattle.item_map.proofs.GapLaws.{entries_kept}
use Rattle.item_map.proofs.ordered.Ordered.iter.Goals as goal

pub returns : goal.returns
returns g c =
    c.starting_at.ensures
    ∙ (sym (entries_kept c.self.inside.entries c.self.invariant) ∙ ap finite.entries c.self.view_is)
