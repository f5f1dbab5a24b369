use Rattle.std.proofs.Common.{◌≡◌, ◌≤◌, ◌+◌, List, sym, ◌++◌, IsTrue, length, map, drop, take, arith, ap, refl, subst, ◌∙◌}
use Rattle.std.specs.List.{list_any}
use Rattle.ratio_core.specs.Answers.{ExactWhere}
use Rattle.ratio_core.specs.AnsweredLaws.{exact_as}
use Rattle.bridge_face.specs.ImageOf.{ImageFits, image_of}
use Rattle.bridge_face.specs.BridgeState.{BridgeState, tried}
use Rattle.bridge_plan.specs.Means.{AreSound}
use Rattle.item_core.specs.declared.edge.Edge.{Edge}
use Rattle.item_core.specs.Edge.{family_eq, family_of}
use Rattle.item_core.specs.KindOf.{kind_of_body}
use Rattle.fresh_bridging.specs.TheRules.{edge_at, image_fits}
use Rattle.bridge_set.specs.Bridges.{Bridges, bridges_of, families_of, means_of}
use Rattle.bridge_set.specs.Turns.{turns_of}
use Rattle.bridge_set.proofs.TurnSteps.{one_turn, turns_changed}
use Rattle.bridge_set.proofs.Fitting.{image_fits_Decides}
use Rattle.bridge_set.proofs.Made.{has_bridge, items_back, means_same, sound_still}
use Rattle.bridge_set.proofs.Stands.{same_after}
use Rattle.bridge_set.proofs.holding.BridgeSetRewriter.image.Goals as goal

pub image_by-requires-clause-own : goal.image_by-requires-clause-own
image_by-requires-clause-own g c =
    let state = g.B.Bridge.state in
    ap (λ (e : Edge). list_any (family_eq (family_of e))
    (families_of (map state c.deref_mut.result.now))) c.edge_of.ensures
    ∙ ap (λ bs. list_any (family_eq (family_of (edge_at c.args.edge)))
    (families_of (map state bs))) c.deref_mut.ensures.value
    ∙ ap (λ (b : Bridges). list_any (family_eq (family_of (edge_at c.args.edge)))
    (families_of b.states)) c.self.view_is
    ∙ has_bridge c.args.self.now (kind_of_body c.args.item.now.body) c.args.edge
    (subst (λ (b : Bridges). AreSound (means_of b)) c.self.view_is c.self.invariant.sound)
    c.requires.chosen

pub invariant_of-self : goal.invariant_of-self
invariant_of-self g c =
    let state = g.B.Bridge.state in
    let v = c.self.inside.bridges in
    let new = c.image_by.new.bridges in
    let same = ap length c.deref_mut.ensures.value in
    let back = items_back v.len new v.items (omega (arith, same, c.image_by.auto.bridges))
    (omega (arith, v.ok.0)) in
    sound_still c.self.inside.table c.self.inside.choices (map state v.items)
    (map state (take v.len (new ++ drop (length new) v.items))) c.self.inside.graph
    (ap (λ bs. families_of (map state bs)) back
    ∙ same_after (λ (s : BridgeState). s.family) (family_of c.edge_of.result) tried
    (map state c.deref_mut.result.now) (map state new) (λ s. refl) c.image_by.ensures.states
    ∙ ap (λ bs. families_of (map state bs)) c.deref_mut.ensures.value)
    c.self.invariant

pub returns-clause-answer : goal.returns-clause-answer
returns-clause-answer g c =
    let decides = image_fits_Decides c.args.edge c.args.item.now in
    exact_as c.image_by.result (ImageFits (edge_at c.args.edge) c.args.item.now)
    (IsTrue (image_fits c.args.edge c.args.item.now))
    (λ image. image ≡ image_of (edge_at c.args.edge) c.args.item.now)
    (λ image. image ≡ image_of (edge_at c.args.edge) c.args.item.now) decides.1
    decides.0 (λ _ is. is)
    (subst (λ (e : Edge). ExactWhere c.image_by.result (ImageFits e c.args.item.now)
    (λ image. image ≡ image_of e c.args.item.now)) c.edge_of.ensures
    c.image_by.ensures.answer)

pub returns-clause-means : goal.returns-clause-means
returns-clause-means g c =
    let state = g.B.Bridge.state in
    let v = c.self.inside.bridges in
    let t = c.self.inside.table in
    let cs = c.self.inside.choices in
    let old = c.deref_mut.result.now in
    let new = c.image_by.new.bridges in
    let same = ap length c.deref_mut.ensures.value in
    let back = items_back v.len new v.items (omega (arith, same, c.image_by.auto.bridges))
    (omega (arith, v.ok.0)) in
    ap (λ bs. means_of (bridges_of t cs (map state bs))) back
    ∙ means_same t cs (map state old) (map state new)
    (same_after (λ (s : BridgeState). s.family) (family_of c.edge_of.result) tried
    (map state old) (map state new) (λ s. refl) c.image_by.ensures.states)
    (same_after (λ (s : BridgeState). (s.family, s.kept)) (family_of c.edge_of.result) tried
    (map state old) (map state new) (λ s. refl) c.image_by.ensures.states)
    ∙ ap (λ bs. means_of (bridges_of t cs (map state bs))) c.deref_mut.ensures.value
    ∙ ap means_of c.self.view_is

pub returns-clause-turns : goal.returns-clause-turns
returns-clause-turns g c =
    let state = g.B.Bridge.state in
    let v = c.self.inside.bridges in
    let new = c.image_by.new.bridges in
    let same = ap length c.deref_mut.ensures.value in
    let back = items_back v.len new v.items (omega (arith, same, c.image_by.auto.bridges))
    (omega (arith, v.ok.0)) in
    let was : map state c.deref_mut.result.now ≡ c.args.self.now.states =
    ap (map state) c.deref_mut.ensures.value ∙ ap (λ (b : Bridges). b.states) c.self.view_is in
    subst (λ (p : List BridgeState × List BridgeState). turns_of p.0 ≤ turns_of p.1 + 1)
    (λ i. (sym (ap (map state) back) i, was i))
    (turns_changed (family_of c.edge_of.result) tried (λ s. one_turn s s.kept)
    (map state c.deref_mut.result.now) (map state new) c.image_by.ensures.states)
