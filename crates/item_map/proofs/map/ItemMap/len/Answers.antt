use Rattle.std.proofs.Common.{sym, ap, ◌∙◌}
use Rattle.std.specs.FinMap as finite
use Rattle.item_map.specs.CountLaws.{counted}
use Rattle.item_map.proofs.map.ItemMap.len.Goals as goal

pub returns : goal.returns
returns g c =
    c.self.invariant.count ∙ ap (λ m. finite.len m.entries) c.self.view_is
    ∙ sym (counted c.args.self.now.entries)
