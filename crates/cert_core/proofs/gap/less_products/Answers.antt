use Rattle.std.specs.Prelude.{◌≡◌, ◌+◌}
use Rattle.std.proofs.Common.{◌∙◌, ap, drop, refl, subst, sym}
use Rattle.ratio_core.specs.Folds.{sum_from}
use Rattle.ratio_core.specs.Rational.{Fits, SumFits, neg_ℚ, ◌*ℚ◌, ◌-ℚ◌}
use Rattle.ratio_core.specs.AnsweredLaws.{overflowed}
use Rattle.rational_laws.specs.Dot.{negated}
use Rattle.aff_core.specs.FunctionLists.{constants}
use Rattle.cert_core.specs.Folds.{AddUp, products}
use Rattle.cert_core.proofs.Parts.{next_less, none_less}
use Rattle.cert_core.proofs.Summed.{negated_refused, negated_step, summed_end}
use Rattle.cert_core.proofs.gap.less_products.Goals as goal

pub returns-in_err-product : goal.returns-in_err-product
returns-in_err-product c =
    let w = c.args.duals.now in
    let fs = c.args.fs.now in
    let i = c.loop-i.i in
    let parts = negated (products w (constants fs)) in
    let next = next_less w fs i c.index-duals-i.result c.index-fs-i.result c.requires
    c.index-duals-i.is c.index-fs-i.is c.loop-i-test.true in
    overflowed c.from_residual.result _ (AddUp c.args.sum.now parts)
    (λ q. q ≡ sum_from c.args.sum.now parts) c.from_residual.ensures.1 refl
    (λ all. c.in_err-product.ensures.exact
    (subst (λ k. Fits (c.index-duals-i.result *ℚ k)) (sym c.constant.ensures)
    (negated_refused c.args.sum.now c.loop-i.left parts
    (negated (products (drop i w) (constants (drop i fs))))
    (negated (products (drop (i + 1) w) (constants (drop (i + 1) fs))))
    (c.index-duals-i.result *ℚ c.index-fs-i.result.constant) c.loop-i.invariant next all).0))

pub returns-in_err-left : goal.returns-in_err-left
returns-in_err-left c =
    let w = c.args.duals.now in
    let fs = c.args.fs.now in
    let i = c.loop-i.i in
    let parts = negated (products w (constants fs)) in
    let next = next_less w fs i c.index-duals-i.result c.index-fs-i.result c.requires
    c.index-duals-i.is c.index-fs-i.is c.loop-i-test.true in
    let product_is : c.in_ok-product.product
    ≡ c.index-duals-i.result *ℚ c.index-fs-i.result.constant =
    c.in_ok-product.ensures.exact.1 ∙ ap (λ k. c.index-duals-i.result *ℚ k) c.constant.ensures in
    overflowed c.from_residual-in_err-left.result _ (AddUp c.args.sum.now parts)
    (λ q. q ≡ sum_from c.args.sum.now parts) c.from_residual-in_err-left.ensures.1 refl
    (λ all. c.in_err-left.ensures.exact
    (subst (λ p. SumFits c.loop-i.left (neg_ℚ p)) (sym product_is)
    (negated_refused c.args.sum.now c.loop-i.left parts
    (negated (products (drop i w) (constants (drop i fs))))
    (negated (products (drop (i + 1) w) (constants (drop (i + 1) fs))))
    (c.index-duals-i.result *ℚ c.index-fs-i.result.constant) c.loop-i.invariant next all).1))

pub loop-i-preserved : goal.loop-i-preserved
loop-i-preserved c =
    let w = c.args.duals.now in
    let fs = c.args.fs.now in
    let i = c.loop-i.i in
    let next = next_less w fs i c.index-duals-i.result c.index-fs-i.result c.requires
    c.index-duals-i.is c.index-fs-i.is c.loop-i-test.true in
    let product_is : c.in_ok-product.product
    ≡ c.index-duals-i.result *ℚ c.index-fs-i.result.constant =
    c.in_ok-product.ensures.exact.1 ∙ ap (λ k. c.index-duals-i.result *ℚ k) c.constant.ensures in
    negated_step c.args.sum.now c.loop-i.left (negated (products w (constants fs)))
    (negated (products (drop i w) (constants (drop i fs))))
    (negated (products (drop (i + 1) w) (constants (drop (i + 1) fs))))
    (c.index-duals-i.result *ℚ c.index-fs-i.result.constant) c.loop-i.invariant next
    c.in_ok-left.left
    (subst (λ k. Fits (c.index-duals-i.result *ℚ k)) c.constant.ensures
    c.in_ok-product.ensures.exact.0)
    (subst (λ p. SumFits c.loop-i.left (neg_ℚ p)) product_is c.in_ok-left.ensures.exact.0)
    (c.in_ok-left.ensures.exact.1 ∙ ap (λ p. c.loop-i.left -ℚ p) product_is)

pub returns : goal.returns
returns c =
    let w = c.args.duals.now in
    let fs = c.args.fs.now in
    let i = c.loop-i.i in
    summed_end c.args.sum.now c.loop-i.left (negated (products w (constants fs)))
    (negated (products (drop i w) (constants (drop i fs)))) c.loop-i.invariant
    (none_less w fs i c.loop-i-test.false)
