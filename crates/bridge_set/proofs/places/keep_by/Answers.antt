use Rattle.std.proofs.Common.{◌≡◌, ◌≤◌, ◌+◌, ◌<◌, length, map, OnErr, OnOk, None, arith, sym, ap, ap₂, subst, refl, ◌∙◌, true≢false}
use Rattle.std.specs.Prelude.{slice_index_or, slice_set}
use Rattle.std.specs.List.{list_any}
use Rattle.std.proofs.lemmas.List.{get_or-map, length-map}
use Rattle.bridge_face.specs.BridgeState.{BridgeState, found, given, tried}
use Rattle.item_core.specs.Edge.{family_eq, family_of}
use Rattle.item_core.specs.declared.edge.EdgeEntry.{EdgeEntry}
use Rattle.item_core.specs.declared.family.Family.{Family}
use Rattle.bridge_set.specs.Bridges.{IsAddressFree, IsChangedFor, families_of}
use Rattle.std.specs.FinMap as finite
use Rattle.bridge_set.specs.Turns.{turns_of}
use Rattle.bridge_set.proofs.TurnSteps.{one_turn, turns_changed}
use Rattle.bridge_set.proofs.Stands.{changed_for, none_there, same_after}
use Rattle.bridge_set.proofs.places.keep_by.Goals as goal
use Rattle.bridge_set.proofs.places.keep_by.Goals.{in-Ok, in-Err}

pub keep-requires-clause-free : goal.keep-requires-clause-free
keep-requires-clause-free g c =
    let state = g.B.Bridge.state in
    let bs = c.loop-bridge.bridges in
    let i = c.loop-bridge.bridge-index in
    let d = c.bridge-item.result in
    let all = subst (λ xs. IsAddressFree c.args.node.item.at (map state xs))
    (sym c.loop-bridge.invariant.0) c.requires.free in
    let inside : i < length bs = omega arith in
    subst (λ (s : BridgeState). found s c.args.node.item.at ≡ None)
    (get_or-map state bs i d (state d) inside)
    (all i (state d) (omega (arith, inside, length-map bs state)))

pub returns-then-eq-clause-ok : goal.returns-then-eq-clause-ok
returns-then-eq-clause-ok g c =
    let state = g.B.Bridge.state in
    let bs = c.loop-bridge.bridges in
    let i = c.loop-bridge.bridge-index in
    let d = c.bridge-item.result in
    let family = family_of c.args.node.edge in
    let same = ap₂ family_eq (sym (ap (λ (x : EdgeEntry). x.family) c.entry-family.ensures))
    (sym c.family.ensures.family) ∙ sym c.eq.ensures ∙ c.if-eq.true in
    elim c.match-keep.branch [
      | in-Ok w ↦
          subst (λ r. OnOk r (IsChangedFor family (λ s. given s c.args.node)
          (map state c.args.bridges.now) (map state (slice_set bs i c.keep.new.self))))
          (sym w.result-is)
          (subst (λ xs. IsChangedFor family (λ s. given s c.args.node) (map state xs)
          (map state (slice_set bs i c.keep.new.self))) c.loop-bridge.invariant.0
          (changed_for state family (λ s. given s c.args.node) bs i (slice_index_or bs i d) d
          c.keep.new.self (omega arith) refl same w.in-Ok.ensures.ok))
      | in-Err w ↦
          subst (λ r. OnOk r (IsChangedFor family (λ s. given s c.args.node)
          (map state c.args.bridges.now) (map state (slice_set bs i c.keep.new.self))))
          (sym w.result-is) tt
    ]

pub returns-then-eq-clause-err : goal.returns-then-eq-clause-err
returns-then-eq-clause-err g c =
    let state = g.B.Bridge.state in
    let bs = c.loop-bridge.bridges in
    let i = c.loop-bridge.bridge-index in
    let d = c.bridge-item.result in
    let family = family_of c.args.node.edge in
    let same = ap₂ family_eq (sym (ap (λ (x : EdgeEntry). x.family) c.entry-family.ensures))
    (sym c.family.ensures.family) ∙ sym c.eq.ensures ∙ c.if-eq.true in
    elim c.match-keep.branch [
      | in-Ok w ↦
          subst (λ r. OnErr r (IsChangedFor family tried (map state c.args.bridges.now)
          (map state (slice_set bs i c.keep.new.self)))) (sym w.result-is) tt
      | in-Err w ↦
          subst (λ r. OnErr r (IsChangedFor family tried (map state c.args.bridges.now)
          (map state (slice_set bs i c.keep.new.self)))) (sym w.result-is)
          (subst (λ xs. IsChangedFor family tried (map state xs)
          (map state (slice_set bs i c.keep.new.self))) c.loop-bridge.invariant.0
          (changed_for state family tried bs i (slice_index_or bs i d) d c.keep.new.self
          (omega arith) refl same w.in-Err.ensures.err))
    ]

pub returns-then-eq-clause-families : goal.returns-then-eq-clause-families
returns-then-eq-clause-families g c =
    let state = g.B.Bridge.state in
    let bs = c.loop-bridge.bridges in
    let i = c.loop-bridge.bridge-index in
    let d = c.bridge-item.result in
    let family = family_of c.args.node.edge in
    let same = ap₂ family_eq (sym (ap (λ (x : EdgeEntry). x.family) c.entry-family.ensures))
    (sym c.family.ensures.family) ∙ sym c.eq.ensures ∙ c.if-eq.true in
    let before = ap (λ xs. families_of (map state xs)) c.loop-bridge.invariant.0 in
    elim c.match-keep.branch [
      | in-Ok w ↦
          same_after (λ (s : BridgeState). s.family) family (λ s. given s c.args.node) (map state bs)
          (map state (slice_set bs i c.keep.new.self)) (λ s. refl)
          (changed_for state family (λ s. given s c.args.node) bs i (slice_index_or bs i d) d
          c.keep.new.self (omega arith) refl same w.in-Ok.ensures.ok) ∙ before
      | in-Err w ↦
          same_after (λ (s : BridgeState). s.family) family tried (map state bs)
          (map state (slice_set bs i c.keep.new.self)) (λ s. refl)
          (changed_for state family tried bs i (slice_index_or bs i d) d c.keep.new.self
          (omega arith) refl same w.in-Err.ensures.err) ∙ before
    ]

pub returns-then-eq-clause-turns : goal.returns-then-eq-clause-turns
returns-then-eq-clause-turns g c =
    let state = g.B.Bridge.state in
    let bs = c.loop-bridge.bridges in
    let i = c.loop-bridge.bridge-index in
    let d = c.bridge-item.result in
    let family = family_of c.args.node.edge in
    let same = ap₂ family_eq (sym (ap (λ (x : EdgeEntry). x.family) c.entry-family.ensures))
    (sym c.family.ensures.family) ∙ sym c.eq.ensures ∙ c.if-eq.true in
    elim c.match-keep.branch [
      | in-Ok w ↦
          subst (λ xs. turns_of (map state (slice_set bs i c.keep.new.self))
          ≤ turns_of (map state xs) + 1) c.loop-bridge.invariant.0
          (turns_changed family (λ s. given s c.args.node)
          (λ s. one_turn s (finite.insert s.kept c.args.node.item.at c.args.node)) (map state bs)
          (map state (slice_set bs i c.keep.new.self))
          (changed_for state family (λ s. given s c.args.node) bs i (slice_index_or bs i d) d
          c.keep.new.self (omega arith) refl same w.in-Ok.ensures.ok))
      | in-Err w ↦
          subst (λ xs. turns_of (map state (slice_set bs i c.keep.new.self))
          ≤ turns_of (map state xs) + 1) c.loop-bridge.invariant.0
          (turns_changed family tried (λ s. one_turn s s.kept) (map state bs)
          (map state (slice_set bs i c.keep.new.self))
          (changed_for state family tried bs i (slice_index_or bs i d) d c.keep.new.self
          (omega arith) refl same w.in-Err.ensures.err))
    ]

pub unreachable-requires : goal.unreachable-requires
unreachable-requires g c =
    let state = g.B.Bridge.state in
    let f = c.entry-family.result.family in
    true≢false (sym c.requires.own
    ∙ ap (λ (h : Family). list_any (family_eq h) (families_of (map state c.args.bridges.now)))
    (sym (ap (λ (x : EdgeEntry). x.family) c.entry-family.ensures))
    ∙ ap (λ xs. list_any (family_eq f) (families_of (map state xs)))
    (sym c.loop-bridge.invariant.0)
    ∙ none_there state c.loop-bridge.bridges c.loop-bridge.bridge-index f (omega arith)
    c.loop-bridge.invariant.1)
