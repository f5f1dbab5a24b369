use Rattle.std.specs.Prelude.{◌++◌}
use Rattle.std.proofs.Common.{sym, ap, ◌∙◌}
use Rattle.std.specs.FinMap as finite
use Rattle.aff_core.specs.Address.{address_cmp}
use Rattle.map_laws.specs.MadeLaws.{entries_empty}
use Rattle.item_map.specs.ItemLists.{of_items}
use Rattle.item_map.proofs.RiseLaws.{entries_are}
use Rattle.item_map.proofs.map.ItemMap.iter.Goals as goal

pub returns : goal.returns
returns g c =
    c.of.ensures
    ∙ (λ i. (c.iter-5.ensures ∙ ap finite.entries c.self.invariant.empty ∙ entries_empty address_cmp) i
    ++ of_items (c.iter.ensures.items i ++ (c.iter-2.ensures.items i
    ++ (c.iter-3.ensures.items i ++ c.iter-4.ensures.items i))))
    ∙ sym (entries_are c.self.inside.roots c.self.invariant.order)
    ∙ ap (λ m. finite.entries m.entries) c.self.view_is
