use Rattle.touched_items.proofs.Loops.{ordered_once}
use Rattle.touched_items.proofs.found.in_order.Goals as goal

pub returns : goal.returns
returns c =
    ordered_once c.args.listed.items c.sort_unstable.new.self.items c.dedup.new.self.items
    c.sort_unstable.ensures.permutation c.sort_unstable.ensures.sorted c.dedup.ensures.filtered
