use Rattle.dualization.proofs.CarryLemmas.{joined_all}
use Rattle.dualization.proofs.carrying.carried_rows.Goals as goal

pub returns : goal.returns
returns c =
    joined_all c.args.rows.now.items c.loop-row.row-iterator c.args.x.now c.loop-row.left.now
    c.loop-row.carried.items c.in-None.ensures.steps.0 c.loop-row.invariant
