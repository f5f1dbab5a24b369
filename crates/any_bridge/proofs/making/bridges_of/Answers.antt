use Rattle.any_bridge.proofs.Made.{made_empty, made_once}
use Rattle.any_bridge.proofs.making.bridges_of.Goals as goal

pub returns-clause-once : goal.returns-clause-once
returns-clause-once c =
    made_once c.args.families.now c.in_ok-bridges.bridges.items c.in_ok-bridges.ensures
    c.requires.once

pub returns-clause-kept : goal.returns-clause-kept
returns-clause-kept c =
    made_empty c.args.families.now c.in_ok-bridges.bridges.items c.in_ok-bridges.ensures
