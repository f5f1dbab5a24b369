use Rattle.std.proofs.Common.{sym, ap, ◌∙◌}
use Rattle.std.specs.FinMap as finite
use Rattle.std.specs.Option.{option_copied}
use Rattle.aff_core.specs.Address.{address_cmp}
use Rattle.item_map.specs.ItemLists.{own}
use Rattle.item_map.proofs.OwnLaws.{found_is, got, missing_is}
use Rattle.item_map.proofs.map.ItemMap.get.Goals as goal

pub returns-in-Some : goal.returns-in-Some
returns-in-Some g c =
    let roots = c.self.inside.roots in
    let at = c.args.at.now in
    c.get.ensures
    ∙ ap (λ m. finite.get m at) (found_is (own roots at) c.in-Some.entries.now
    (sym (ap option_copied c.in-Some.is) ∙ c.own.ensures))
    ∙ sym (got roots c.self.invariant.order at)
    ∙ ap (λ m. finite.get m.entries at) c.self.view_is

pub returns-in-None : goal.returns-in-None
returns-in-None g c =
    let roots = c.self.inside.roots in
    let at = c.args.at.now in
    sym (finite.get-empty address_cmp at)
    ∙ ap (λ m. finite.get m at) (sym (missing_is (own roots at)
    (sym (ap option_copied c.in-None.is) ∙ c.own.ensures)))
    ∙ sym (got roots c.self.invariant.order at)
    ∙ ap (λ m. finite.get m.entries at) c.self.view_is
