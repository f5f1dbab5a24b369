use Rattle.std.proofs.Common.{◌++◌, length, map, drop, take, arith, ap, ◌∙◌}
use Rattle.bridge_set.specs.Bridges.{families_of}
use Rattle.bridge_set.specs.Sound.{families_stay}
use Rattle.bridge_set.proofs.Made.{items_back, sound_still}
use Rattle.bridge_set.proofs.holding.BridgeSet.clear.Goals as goal

pub invariant_of-self : goal.invariant_of-self
invariant_of-self g c =
    let state = g.B.Bridge.state in
    let v = c.self.inside.bridges in
    let new = c.clear_all.new.bridges in
    let same = ap length c.deref_mut.ensures.value in
    let back = items_back v.len new v.items (omega (arith, same, c.clear_all.auto.bridges))
    (omega (arith, v.ok.0)) in
    sound_still c.self.inside.table c.self.inside.choices (map state v.items)
    (map state (take v.len (new ++ drop (length new) v.items))) c.self.inside.graph
    (ap (λ bs. families_of (map state bs)) back
    ∙ ap families_of c.clear_all.ensures
    ∙ families_stay (map state c.deref_mut.result.now)
    ∙ ap (λ bs. families_of (map state bs)) c.deref_mut.ensures.value)
    c.self.invariant
