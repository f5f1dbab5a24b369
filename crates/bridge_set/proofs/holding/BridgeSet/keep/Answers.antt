use Rattle.std.proofs.Common.{◌≡◌, ◌≤◌, ◌+◌, List, ◌++◌, IsTrue, length, map, drop, take, arith, sym, ap, subst, ◌∙◌}
use Rattle.std.proofs.lemmas.Result.{on_err_weaker, on_ok_weaker}
use Rattle.bridge_face.specs.BridgeState.{BridgeState, given, tried}
use Rattle.item_core.specs.Edge.{family_of}
use Rattle.bridge_set.specs.Bridges.{Bridges, at_family, families_of, occur_once}
use Rattle.bridge_set.specs.Turns.{turns_of}
use Rattle.bridge_set.proofs.Families.{at_its_family}
use Rattle.bridge_set.proofs.Made.{items_back, sound_still}
use Rattle.bridge_set.proofs.holding.BridgeSet.keep.Goals as goal

pub invariant_of-self : goal.invariant_of-self
invariant_of-self g c =
    let state = g.B.Bridge.state in
    let v = c.self.inside.bridges in
    let new = c.keep_by.new.bridges in
    let same = ap length c.deref_mut.ensures.value in
    let back = items_back v.len new v.items (omega (arith, same, c.keep_by.auto.bridges))
    (omega (arith, v.ok.0)) in
    sound_still c.self.inside.table c.self.inside.choices (map state v.items)
    (map state (take v.len (new ++ drop (length new) v.items))) c.self.inside.graph
    (ap (λ bs. families_of (map state bs)) back
    ∙ c.keep_by.ensures.families
    ∙ ap (λ bs. families_of (map state bs)) c.deref_mut.ensures.value)
    c.self.invariant

pub returns-clause-families : goal.returns-clause-families
returns-clause-families g c =
    let state = g.B.Bridge.state in
    let v = c.self.inside.bridges in
    let new = c.keep_by.new.bridges in
    let same = ap length c.deref_mut.ensures.value in
    let back = items_back v.len new v.items (omega (arith, same, c.keep_by.auto.bridges))
    (omega (arith, v.ok.0)) in
    ap (λ bs. families_of (map state bs)) back
    ∙ c.keep_by.ensures.families
    ∙ ap (λ bs. families_of (map state bs)) c.deref_mut.ensures.value
    ∙ ap (λ (b : Bridges). families_of b.states) c.self.view_is

pub returns-clause-ok : goal.returns-clause-ok
returns-clause-ok g c =
    let state = g.B.Bridge.state in
    let v = c.self.inside.bridges in
    let new = c.keep_by.new.bridges in
    let family = family_of c.args.node.edge in
    let change = λ (s : BridgeState). given s c.args.node in
    let same = ap length c.deref_mut.ensures.value in
    let back = items_back v.len new v.items (omega (arith, same, c.keep_by.auto.bridges))
    (omega (arith, v.ok.0)) in
    on_ok_weaker c.keep_by.result
    (λ h. ap (map state) back
    ∙ at_its_family change (map state c.deref_mut.result.now) (map state new) family
    (subst (λ bs. IsTrue (occur_once (families_of (map state bs))))
    (sym c.deref_mut.ensures.value) c.self.invariant.once) h
    ∙ ap (λ bs. map (at_family family change) (map state bs)) c.deref_mut.ensures.value
    ∙ ap (λ (b : Bridges). map (at_family family change) b.states) c.self.view_is)
    c.keep_by.ensures.ok

pub returns-clause-err : goal.returns-clause-err
returns-clause-err g c =
    let state = g.B.Bridge.state in
    let v = c.self.inside.bridges in
    let new = c.keep_by.new.bridges in
    let family = family_of c.args.node.edge in
    let same = ap length c.deref_mut.ensures.value in
    let back = items_back v.len new v.items (omega (arith, same, c.keep_by.auto.bridges))
    (omega (arith, v.ok.0)) in
    on_err_weaker c.keep_by.result
    (λ h. ap (map state) back
    ∙ at_its_family tried (map state c.deref_mut.result.now) (map state new) family
    (subst (λ bs. IsTrue (occur_once (families_of (map state bs))))
    (sym c.deref_mut.ensures.value) c.self.invariant.once) h
    ∙ ap (λ bs. map (at_family family tried) (map state bs)) c.deref_mut.ensures.value
    ∙ ap (λ (b : Bridges). map (at_family family tried) b.states) c.self.view_is)
    c.keep_by.ensures.err

pub returns-clause-turns : goal.returns-clause-turns
returns-clause-turns g c =
    let state = g.B.Bridge.state in
    let v = c.self.inside.bridges in
    let new = c.keep_by.new.bridges in
    let same = ap length c.deref_mut.ensures.value in
    let back = items_back v.len new v.items (omega (arith, same, c.keep_by.auto.bridges))
    (omega (arith, v.ok.0)) in
    let was : map state c.deref_mut.result.now ≡ c.args.self.now.states =
    ap (map state) c.deref_mut.ensures.value ∙ ap (λ (b : Bridges). b.states) c.self.view_is in
    subst (λ (p : List BridgeState × List BridgeState). turns_of p.0 ≤ turns_of p.1 + 1)
    (λ i. (sym (ap (map state) back) i, was i)) c.keep_by.ensures.turns
