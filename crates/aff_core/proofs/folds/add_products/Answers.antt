use Rattle.std.proofs.Common.{drop, sym, ap, subst, ◌∙◌, ◌+◌, refl}
use Rattle.std.proofs.Math.ListN.{drop_of_length-le}
use Rattle.std.specs.FinMap.{get}
use Rattle.map_laws.specs.LoopLaws.{next_item}
use Rattle.ratio_core.specs.AnsweredLaws.{passed_on}
use Rattle.aff_core.specs.Arithmetic.{MeetsFit, added_at}
use Rattle.aff_core.proofs.Steps.{AddsAsAll, adds-step, adds-end, adds-meets_fit}
use Rattle.aff_core.proofs.folds.add_products.Goals as goal

pub loop-address-preserved : goal.loop-address-preserved
loop-address-preserved c =
    let item = c.loop-address-item.result in
    let next = next_item c.args.terms.now c.args.terms.now c.loop-address.address-index item refl
    c.loop-address-item.is c.loop-address-test.true in
    let is = c.in_ok-product.ensures.exact.1 in
    subst (λ m. AddsAsAll c.args.by.now c.args.sums.now m c.args.terms.now
    (drop (c.loop-address.address-index + 1) c.args.terms.now))
    (sym (c.in_ok-add_at.ensures.1 ∙ ap (λ q. added_at c.loop-address.sums item.0 q) is))
    (adds-step c.loop-address.invariant next c.in_ok-product.ensures.exact.0
    (subst (MeetsFit (get c.loop-address.sums item.0)) is c.in_ok-add_at.ensures.0))

pub returns-in_err-add_at : goal.returns-in_err-add_at
returns-in_err-add_at c =
    let item = c.loop-address-item.result in
    let next = next_item c.args.terms.now c.args.terms.now c.loop-address.address-index item refl
    c.loop-address-item.is c.loop-address-test.true in
    passed_on c.from_residual-in_err-add_at.result c.in_err-add_at.field-0.0
    (MeetsFit (get c.loop-address.sums item.0) c.in_ok-product.product) _ _ _
    c.from_residual-in_err-add_at.ensures.1 c.in_err-add_at.ensures
    (λ h. subst (MeetsFit (get c.loop-address.sums item.0)) (sym c.in_ok-product.ensures.exact.1)
    (adds-meets_fit c.loop-address.invariant next h.0 h.1))

pub returns : goal.returns
returns c =
    adds-end c.loop-address.invariant
    (drop_of_length-le c.args.terms.now c.loop-address-test.false)
