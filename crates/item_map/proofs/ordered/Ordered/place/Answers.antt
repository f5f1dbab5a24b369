use Rattle.std.specs.Prelude.{◌≡◌, length}
use Rattle.std.proofs.Common.{sym, ap, subst, ◌∙◌}
use Rattle.std.specs.FinMap as finite
use Rattle.aff_core.specs.Address.{address_cmp}
use Rattle.item_map.proofs.GapLaws.{entries_kept, placed}
use Rattle.std.specs.List.Sorted.{IsBinarySearchResult, IsSearchInRange}
use Rattle.item_map.proofs.ordered.Ordered.place.Goals as goal

pub returns : goal.returns
returns g c =
    let mine : c.self.inside.entries ≡ finite.entries c.args.self.now =
    sym (entries_kept c.self.inside.entries c.self.invariant) ∙ ap finite.entries c.self.view_is in
    placed c.args.self.now c.args.at.now c.place.result
    (subst (λ es. IsSearchInRange c.place.result (length es)) mine c.place.ensures.range)
    (subst (λ es. IsBinarySearchResult (λ e. address_cmp e.0 c.args.at.now) es c.place.result)
    mine c.place.ensures.place)
