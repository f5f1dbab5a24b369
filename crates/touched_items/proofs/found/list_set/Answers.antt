use Rattle.std.specs.FinMap.{keys}
use Rattle.std.specs.Prelude.{◌++◌}
use Rattle.touched_items.proofs.Loops.{one_listed}
use Rattle.touched_items.proofs.found.list_set.Goals as goal

pub loop-item-preserved : goal.loop-item-preserved
loop-item-preserved c =
    one_listed c.loop-item.item-iterator c.next.new.self c.in-Some.item.now c.loop-item.list.items
    c.push.new.self.items (c.args.list.now.items ++ keys c.args.items.now)
    c.in-Some.ensures.steps c.loop-item.invariant c.in_ok-push.ensures.items
