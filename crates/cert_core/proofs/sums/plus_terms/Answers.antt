use Rattle.std.specs.Prelude.{◌≡◌, ◌+◌}
use Rattle.std.proofs.Common.{◌∙◌, ap, drop, refl, subst, sym}
use Rattle.std.proofs.Math.ListN.{drop_of_length-le}
use Rattle.ratio_core.specs.Rational.{◌*ℚ◌, ◌+ℚ◌}
use Rattle.ratio_core.specs.AnsweredLaws.{passed_on}
use Rattle.aff_core.specs.Terms.{StepFits, linear}
use Rattle.cert_core.specs.Folds.{AddUp, products_at}
use Rattle.cert_core.specs.Points.{numbers_in}
use Rattle.cert_core.proofs.Evaluated.{with_products}
use Rattle.map_laws.specs.LoopLaws.{next_item}
use Rattle.cert_core.proofs.Summed.{product_refused, product_step, summed_end}
use Rattle.cert_core.proofs.sums.plus_terms.Goals as goal

pub loop-address-preserved : goal.loop-address-preserved
loop-address-preserved c =
    let t = c.loop-address-item.result in
    let ts = c.args.terms.now in
    let i = c.loop-address.address-index in
    let x = numbers_in c.args.at.now in
    let next = next_item ts ts i t refl c.loop-address-item.is c.loop-address-test.true in
    product_step c.args.start.now c.loop-address.sum (products_at ts x)
    (products_at (drop i ts) x) (products_at (drop (i + 1) ts) x) t.1 (x t.0)
    c.loop-address.invariant (ap (λ l. products_at l x) next) c.in_ok-sum.sum
    (subst (StepFits c.loop-address.sum t.1) c.number.ensures c.in_ok-sum.ensures.0)
    (c.in_ok-sum.ensures.1 ∙ ap (λ q. c.loop-address.sum +ℚ t.1 *ℚ q) c.number.ensures)

pub returns-in_err-sum : goal.returns-in_err-sum
returns-in_err-sum c =
    let t = c.loop-address-item.result in
    let ts = c.args.terms.now in
    let i = c.loop-address.address-index in
    let x = numbers_in c.args.at.now in
    let next = next_item ts ts i t refl c.loop-address-item.is c.loop-address-test.true in
    passed_on c.from_residual.result c.in_err-sum.field-0.0
    (StepFits c.loop-address.sum t.1 c.number.result) (AddUp c.args.start.now (products_at ts x))
    (λ q. q ≡ c.args.start.now +ℚ linear ts x)
    (λ q. q ≡ c.loop-address.sum +ℚ t.1 *ℚ c.number.result)
    c.from_residual.ensures.1 c.in_err-sum.ensures
    (λ all. subst (StepFits c.loop-address.sum t.1) (sym c.number.ensures)
    (product_refused c.args.start.now c.loop-address.sum (products_at ts x)
    (products_at (drop i ts) x) (products_at (drop (i + 1) ts) x) t.1 (x t.0)
    c.loop-address.invariant (ap (λ l. products_at l x) next) all))

pub returns : goal.returns
returns c =
    let ts = c.args.terms.now in
    let x = numbers_in c.args.at.now in
    let all = summed_end c.args.start.now c.loop-address.sum (products_at ts x)
    (products_at (drop c.loop-address.address-index ts) x) c.loop-address.invariant
    (ap (λ l. products_at l x) (drop_of_length-le ts c.loop-address-test.false)) in
    (all.0, all.1 ∙ with_products c.args.start.now ts x)
