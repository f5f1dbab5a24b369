use Rattle.std.specs.Prelude.{◌≡◌}
use Rattle.std.proofs.Common.{sym, ap, ◌∙◌}
use Rattle.std.specs.Option.{option_copied, option_map}
use Rattle.numbered_list.specs.Numbered.{find}
use Rattle.item_map.specs.ItemLists.{item_number, items_of, own}
use Rattle.item_map.proofs.roots.ByRoot.own.Goals as goal
use Rattle.item_map.proofs.roots.ByRoot.own.Goals.{After-get}

looked_up : (g : _) (c : After-get g) → option_copied c.get.result
    ≡ own c.args.self.now c.args.at.now
looked_up g c =
    c.get.ensures
    ∙ (λ i. find item_number (c.number.ensures i) (c.list.ensures i).items)
    ∙ ap (λ r. find item_number c.args.at.now.number (items_of c.args.self.now r)) c.kind.ensures

pub returns-in-Some : goal.returns-in-Some
returns-in-Some g c =
    ap (option_map (λ item. item.entries)) (sym (ap option_copied c.in-Some.is)
    ∙ looked_up g (goal.at.returns-in-Some g c).After-get)

pub returns-in-None : goal.returns-in-None
returns-in-None g c =
    ap (option_map (λ item. item.entries)) (sym (ap option_copied c.in-None.is)
    ∙ looked_up g (goal.at.returns-in-None g c).After-get)
