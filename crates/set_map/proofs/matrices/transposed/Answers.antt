use Rattle.set_map.proofs.MatrixSteps.{column_more}
use Rattle.set_map.proofs.matrices.transposed.Goals as goal

pub loop-i-preserved : goal.loop-i-preserved
loop-i-preserved c =
    column_more c.args.rows.now c.loop-i.columns.items c.push.new.self.items c.loop-i.i
    c.in_ok-column.field-0 c.loop-i.invariant c.in_ok-column.ensures c.in_ok-push.ensures.items
