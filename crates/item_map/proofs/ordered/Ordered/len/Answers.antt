use Rattle.std.specs.Prelude.{◌≡◌, length}
use Rattle.std.proofs.Common.{sym, ap, ◌∙◌}
use Rattle.std.proofs.lemmas.List.{length-map}
use Rattle.std.specs.FinMap as finite
use Rattle.item_map.proofs.GapLaws.{entries_kept}
use Rattle.item_map.proofs.ordered.Ordered.len.Goals as goal

pub returns : goal.returns
returns g c =
    let mine : c.self.inside.entries ≡ finite.entries c.args.self.now =
    sym (entries_kept c.self.inside.entries c.self.invariant) ∙ ap finite.entries c.self.view_is in
    c.len.ensures ∙ ap length mine
    ∙ sym (length-map (finite.entries c.args.self.now) (λ e. e.0))
