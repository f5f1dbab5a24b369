use Rattle.std.proofs.Common.{ap, map, sym, ◌∙◌}
use Rattle.std.specs.List.{list_any}
use Rattle.bridge_set.specs.Bridges.{families_of}
use Rattle.bridge_face.specs.BridgeState.{BridgeState}
use Rattle.item_core.specs.Edge.{family_eq}
use Rattle.lazy_bridge.proofs.Added.{none_kept_more, once_more}
use Rattle.lazy_bridge.proofs.bridges.add_bridge.Goals as goal

pub returns-clause-once : goal.returns-clause-once
returns-clause-once g c =
    let state = g.B.Bridge.state in
    let old = c.args.bridges.now.items in
    once_more state old c.push.new.self.items c.let_all_go.new.self c.in_ok-push.ensures.items
    c.requires.once
    (ap (λ (s : BridgeState). list_any (family_eq s.family) (families_of (map state old)))
    c.let_all_go.ensures
    ∙ ap (λ f. list_any (family_eq f) (families_of (map state old))) (sym c.family.ensures.family)
    ∙ ap (λ bs. list_any (family_eq c.family.result) (families_of (map state bs)))
    (sym c.deref.ensures.value)
    ∙ sym c.has_family.ensures ∙ c.if-has_family.false)

pub returns-clause-kept : goal.returns-clause-kept
returns-clause-kept g c =
    none_kept_more g.B.Bridge.state c.args.bridges.now.items c.push.new.self.items
    c.let_all_go.new.self c.in_ok-push.ensures.items c.requires.kept
    (ap (λ (s : BridgeState). s.kept) c.let_all_go.ensures)
