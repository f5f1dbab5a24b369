use Rattle.std.proofs.Common.{length, subst, sym, true≢false, ◌∙◌}
use Rattle.std.proofs.lemmas.List.{with_items_is}
use Rattle.tableau_core.specs.Row.{IsLowered, IsPutAt, cell}
use Rattle.tableau_core.specs.ItemLaws.{item_is}
use Rattle.tableau_core.proofs.RowSteps.{entry-zero, lowered-itself, lowered_put}
use Rattle.tableau_core.proofs.kept.Row.settle.Goals as goal

pub returns-then-not-is_zero-clause-lowered : goal.returns-then-not-is_zero-clause-lowered
returns-then-not-is_zero-clause-lowered c = λ step long covers prepared.
    let row = c.args.self.now.now.items in
    let places = c.args.places.now in
    let put = subst (λ old. IsPutAt places (length places) (cell c.deref.result.now) old
    c.put_at.new.row) c.deref_mut.ensures.value c.put_at.ensures.put in
    subst (IsLowered (cell row c.args.q) step row)
    (sym (with_items_is c.args.self.now.now c.put_at.new.row (c.put_at.auto.row
    ∙ c.deref_mut.ensures.len)))
    (lowered_put (cell row c.args.q) step row c.args.self.now.next.items c.put_at.new.row
    places long covers
    (prepared (λ z. true≢false
    (sym (c.is_zero.ensures.1 (item_is row c.args.q c.index.result.now c.requires
    c.index.ensures ∙ z)) ∙ c.if-not-is_zero.true)))
    (subst (λ next. IsPutAt places (length places) (cell next) row c.put_at.new.row)
    c.deref.ensures.value put))

pub returns-else-not-is_zero-clause-lowered : goal.returns-else-not-is_zero-clause-lowered
returns-else-not-is_zero-clause-lowered c = λ step _ _ _.
    lowered-itself (cell c.args.self.now.now.items c.args.q) step c.args.self.now.now.items
    (entry-zero c.args.self.now.now.items c.args.q c.index.result.now c.requires c.index.ensures
    (c.is_zero.ensures.0 c.if-not-is_zero.false))
