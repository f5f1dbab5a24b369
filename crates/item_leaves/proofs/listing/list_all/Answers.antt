use Rattle.std.specs.Prelude.{◌++◌}
use Rattle.item_leaves.proofs.ListLaws.{keys, no_more, one_more}
use Rattle.item_leaves.proofs.listing.list_all.Goals as goal

pub loop-leaf-preserved : goal.loop-leaf-preserved
loop-leaf-preserved c =
    one_more c.loop-leaf.leaf-iterator c.next.new.self c.in-Some.leaf.now c.loop-leaf.list
    c.push.new.self (c.args.list.now ++ keys c.args.leaves) c.in-Some.ensures.steps
    c.loop-leaf.invariant c.in_default.ensures.ok

pub returns : goal.returns
returns c =
    no_more c.loop-leaf.leaf-iterator c.loop-leaf.list (c.args.list.now ++ keys c.args.leaves)
    c.in-None.ensures.steps.0 c.loop-leaf.invariant
