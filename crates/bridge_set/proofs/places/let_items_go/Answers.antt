use Rattle.std.proofs.Common.{[], ◌∷◌, ◌++◌, ap, subst, sym, take, ◌∙◌}
use Rattle.std.proofs.lemmas.List.{take_all, take_more}
use Rattle.bridge_set.specs.Letting.{IsReleased}
use Rattle.bridge_set.proofs.Releasing.{released_more, released_none}
use Rattle.bridge_set.proofs.places.let_items_go.Goals as goal

pub loop-at-init : goal.loop-at-init
loop-at-init g c = released_none (g.B.Bridge.state c.args.bridge.now)

pub loop-at-preserved : goal.loop-at-preserved
loop-at-preserved g c =
    let state = g.B.Bridge.state in
    let l = c.loop-at in
    let items = c.args.items.now in
    let at = c.at-item.result in
    subst (λ xs. IsReleased xs (state c.args.bridge.now) (state c.let_item_go.new.bridge))
    (sym (take_more items l.at-index at c.loop-at-test.true
    ∙ ap (λ x. take l.at-index items ++ x ∷ []) (sym c.at-item.is)))
    (released_more (take l.at-index items) (at ∷ []) (state c.args.bridge.now) (state l.bridge)
    (state c.let_item_go.new.bridge) l.invariant c.let_item_go.ensures)

pub returns : goal.returns
returns g c =
    let state = g.B.Bridge.state in
    let l = c.loop-at in
    subst (λ xs. IsReleased xs (state c.args.bridge.now) (state l.bridge))
    (take_all l.at-index c.args.items.now c.loop-at-test.false) l.invariant
