use Rattle.std.proofs.Common.{sym, ◌∙◌}
use Rattle.item_map.proofs.EndLaws.{between_ends}
use Rattle.item_map.proofs.one_root.OneRoot.ends.Goals as goal

pub returns : goal.returns
returns g c =
    between_ends c.in_ok-first.first.now c.in_ok-last.last.now c.next.new.self c.next_back.new.self
    c.args.self.now.items.items c.iter.ensures.rising
    (sym c.iter.ensures.items ∙ c.in_ok-first.ensures.steps)
    (sym c.iter-2.ensures.items ∙ c.in_ok-last.ensures.steps)
