use Rattle.std.proofs.Common.{◌≡◌, ◌++◌, List, length, map, drop, take, arith, sym, ap, subst, ◌∙◌}
use Rattle.bridge_face.specs.BridgeState.{BridgeState}
use Rattle.bridge_set.specs.Bridges.{Bridges, families_of}
use Rattle.bridge_set.specs.Letting.{AreReleased}
use Rattle.bridge_set.proofs.Made.{items_back, sound_still}
use Rattle.bridge_set.proofs.Released.{released_families}
use Rattle.bridge_set.proofs.holding.BridgeSet.let_found_go.Goals as goal
use Rattle.bridge_set.proofs.holding.BridgeSet.let_found_go.Goals.{After-let_found_go_by}

-- the bridges are put back, and have released the items
released : (g : _) (c : After-let_found_go_by g)
    → AreReleased c.args.found.now c.args.self.now.states
    (map g.B.Bridge.state (take c.self.inside.bridges.len (c.let_found_go_by.new.bridges
    ++ drop (length c.let_found_go_by.new.bridges) c.self.inside.bridges.items)))
released g c =
    let state = g.B.Bridge.state in
    let v = c.self.inside.bridges in
    let new = c.let_found_go_by.new.bridges in
    let same = ap length c.deref_mut.ensures.value in
    let back = items_back v.len new v.items (omega (arith, same, c.let_found_go_by.auto.bridges))
    (omega (arith, v.ok.0)) in
    let was : map state c.deref_mut.result.now ≡ c.args.self.now.states =
    ap (map state) c.deref_mut.ensures.value ∙ ap (λ (b : Bridges). b.states) c.self.view_is in
    subst (λ (p : List BridgeState × List BridgeState). AreReleased c.args.found.now p.0 p.1)
    (λ i. (was i, sym (ap (map state) back) i)) c.let_found_go_by.ensures

pub invariant_of-self : goal.invariant_of-self
invariant_of-self g c =
    let state = g.B.Bridge.state in
    let v = c.self.inside.bridges in
    let new = c.let_found_go_by.new.bridges in
    sound_still c.self.inside.table c.self.inside.choices (map state v.items)
    (map state (take v.len (new ++ drop (length new) v.items))) c.self.inside.graph
    (released_families c.args.found.now c.args.self.now.states
    (map state (take v.len (new ++ drop (length new) v.items)))
    (released g (goal.at.invariant_of-self g c).After-let_found_go_by)
    ∙ sym (ap (λ (b : Bridges). families_of b.states) c.self.view_is))
    c.self.invariant

pub returns-clause-families : goal.returns-clause-families
returns-clause-families g c =
    released_families c.args.found.now c.args.self.now.states _
    (released g (goal.at.returns-clause-families g c).After-let_found_go_by)

pub returns-clause-gone : goal.returns-clause-gone
returns-clause-gone g c =
    (released g (goal.at.returns-clause-gone g c).After-let_found_go_by).kept

pub returns-clause-turns : goal.returns-clause-turns
returns-clause-turns g c =
    (released g (goal.at.returns-clause-turns g c).After-let_found_go_by).turns
