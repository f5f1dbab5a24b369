use Rattle.std.proofs.Common.{sym, ◌∙◌}
use Rattle.std.specs.FinMap as finite
use Rattle.item_map.specs.ItemAddresses.{is_of}
use Rattle.item_map.proofs.OwnLaws.{first_there, none_there}
use Rattle.item_map.proofs.map.ItemMap.first_of.Goals as goal

pub returns-in-Some : goal.returns-in-Some
returns-in-Some g c =
    first_there (is_of c.args.item.now) (finite.entries c.args.self.now.entries) c.in-Some.entry.now
    c.next.new.self (sym c.of_item.ensures ∙ c.in-Some.ensures.steps)

pub returns-in-None : goal.returns-in-None
returns-in-None g c =
    none_there (is_of c.args.item.now) (finite.entries c.args.self.now.entries)
    (sym c.of_item.ensures ∙ c.in-None.ensures.steps.0)
