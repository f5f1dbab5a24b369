use Rattle.std.proofs.Common.{◌∙◌}
use Rattle.ratio_core.proofs.Compared.{cmp_above, cmp_below, cmp_greater, cmp_less, products_along}
use Rattle.ratio_core.proofs.fraction.Ratio.cmp_by_products.Goals as goal

pub returns-in-true-true : goal.returns-in-true-true
returns-in-true-true c =
    cmp_below c.args.self.now c.args.other.now _ c.in-true-true.ensures c.in-true-true.ensures'
    (c.cmp_products.ensures
    ∙ products_along _ _ _ _ _ _ _ _ c.size.ensures.value c.over.ensures.value
    c.size-in-true-true.ensures.value c.over-in-true-true.ensures.value)

pub returns-in-true-false : goal.returns-in-true-false
returns-in-true-false c =
    cmp_less c.args.self.now c.args.other.now c.in-true-false.ensures c.in-true-false.ensures'

pub returns-in-false-true : goal.returns-in-false-true
returns-in-false-true c =
    cmp_greater c.args.self.now c.args.other.now c.in-false-true.ensures c.in-false-true.ensures'

pub returns-in-false-false : goal.returns-in-false-false
returns-in-false-false c =
    cmp_above c.args.self.now c.args.other.now _ c.in-false-false.ensures c.in-false-false.ensures'
    (c.cmp_products-in-false-false.ensures
    ∙ products_along _ _ _ _ _ _ _ _ c.size-in-false-false.ensures.value
    c.over-in-false-false.ensures.value c.size-in-false-false-2.ensures.value
    c.over-in-false-false-2.ensures.value)
