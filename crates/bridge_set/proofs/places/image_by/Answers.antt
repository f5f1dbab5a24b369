use Rattle.std.proofs.Common.{map, arith, sym, ap, ap₂, subst, refl, ◌∙◌, true≢false}
use Rattle.std.specs.Prelude.{slice_index_or, slice_set}
use Rattle.std.specs.List.{list_any}
use Rattle.bridge_face.specs.BridgeState.{tried}
use Rattle.item_core.specs.Edge.{family_eq, family_of}
use Rattle.item_core.specs.declared.edge.EdgeEntry.{EdgeEntry}
use Rattle.item_core.specs.declared.family.Family.{Family}
use Rattle.bridge_set.specs.Bridges.{IsChangedFor, families_of}
use Rattle.bridge_set.proofs.Stands.{changed_for, none_there}
use Rattle.bridge_set.proofs.places.image_by.Goals as goal

pub returns-then-eq-clause-states : goal.returns-then-eq-clause-states
returns-then-eq-clause-states g c =
    let state = g.B.Bridge.state in
    let bs = c.loop-bridge.bridges in
    let i = c.loop-bridge.bridge-index in
    let d = c.bridge-item.result in
    subst (λ xs. IsChangedFor (family_of c.args.edge) tried (map state xs)
    (map state (slice_set bs i c.image.new.self))) c.loop-bridge.invariant.0
    (changed_for state (family_of c.args.edge) tried bs i (slice_index_or bs i d) d
    c.image.new.self (omega arith) refl
    (ap₂ family_eq (sym (ap (λ (x : EdgeEntry). x.family) c.entry-family.ensures))
    (sym c.family.ensures.family) ∙ sym c.eq.ensures ∙ c.if-eq.true)
    c.image.ensures.state)

pub unreachable-requires : goal.unreachable-requires
unreachable-requires g c =
    let state = g.B.Bridge.state in
    let f = c.entry-family.result.family in
    true≢false (sym c.requires.own
    ∙ ap (λ (h : Family). list_any (family_eq h) (families_of (map state c.args.bridges.now)))
    (sym (ap (λ (x : EdgeEntry). x.family) c.entry-family.ensures))
    ∙ ap (λ xs. list_any (family_eq f) (families_of (map state xs)))
    (sym c.loop-bridge.invariant.0)
    ∙ none_there state c.loop-bridge.bridges c.loop-bridge.bridge-index f (omega arith)
    c.loop-bridge.invariant.1)
