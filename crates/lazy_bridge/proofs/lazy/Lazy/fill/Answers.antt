use Rattle.lazy_bridge.proofs.Rebridging.{bridged}
use Rattle.lazy_bridge.proofs.Putting.{nothing_tried, tried_leaves}
use Rattle.lazy_bridge.proofs.lazy.Lazy.fill.Goals as goal

pub put-requires-clause-kept : goal.put-requires-clause-kept
put-requires-clause-kept g c =
    nothing_tried c.args.self.now c.plan.new.self c.in_ok-planned.ensures.planned.1 c.requires

pub returns-clause-bridged : goal.returns-clause-bridged
returns-clause-bridged g c =
    let planned = c.in_ok-planned.ensures.planned in
    let put = c.in_ok-put.ensures in
    bridged c.args.self.now c.plan.new.self c.put.new.self c.args.model.now.model
    c.in_ok-planned.planned c.in_ok-put.field-0 planned.0
    (tried_leaves c.args.self.now c.plan.new.self planned.1) put.holds.0 put.setting put.holds.1
    c.plan.ensures.valid
