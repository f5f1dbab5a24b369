use Rattle.std.proofs.Common.{arith}
use Rattle.model_catalog.proofs.NameLoops.{taken_more}
use Rattle.model_catalog.proofs.names.take_names.Goals as goal

pub loop-item-preserved : goal.loop-item-preserved
loop-item-preserved c =
    taken_more c.args.table.now.numbers c.loop-item.table.numbers c.take_name.new.table.numbers
    c.args.listed.now c.loop-item.listed c.loop-item.item-index c.args.table.now.spare
    c.loop-item.table.spare c.take_name.new.table.spare c.item-item.result c.take_name.result
    c.loop-item.invariant (omega arith) c.take_name.ensures.value c.take_name.ensures.names
    c.take_name.ensures.spare c.take_name.ensures.one_to_one
