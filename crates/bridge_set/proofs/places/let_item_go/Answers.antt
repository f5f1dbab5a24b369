use Rattle.bridge_set.proofs.Releasing.{all_released, fewer_left, one_released, releasing_none}
use Rattle.bridge_set.proofs.places.let_item_go.Goals as goal

pub loop-first-init : goal.loop-first-init
loop-first-init g c = releasing_none c.args.at.now (g.B.Bridge.state c.args.bridge.now)

pub loop-first-preserved : goal.loop-first-preserved
loop-first-preserved g c =
    let state = g.B.Bridge.state in
    one_released c.args.at.now c.in-Some.first (state c.args.bridge.now) (state c.loop-first.bridge)
    (state c.let_go.new.self) c.loop-first.invariant c.in-Some.ensures c.let_go.ensures.state

pub loop-first-smaller : goal.loop-first-smaller
loop-first-smaller g c =
    let state = g.B.Bridge.state in
    fewer_left c.args.at.now c.in-Some.first (state c.loop-first.bridge) (state c.let_go.new.self)
    c.in-Some.ensures c.let_go.ensures.state

pub returns : goal.returns
returns g c =
    let state = g.B.Bridge.state in
    all_released c.args.at.now (state c.args.bridge.now) (state c.loop-first.bridge)
    c.loop-first.invariant c.in_default.ensures
