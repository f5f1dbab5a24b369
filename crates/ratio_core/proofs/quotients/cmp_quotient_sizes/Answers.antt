use Rattle.std.proofs.Common.{mul-pos, subst, sym, ◌<◌, ◌∙◌, ap₂, ◌*◌}
use Rattle.ratio_core.proofs.Crossed.{positive_parts}
use Rattle.ratio_core.proofs.quotients.cmp_quotient_sizes.Goals as goal

pub cmp_wide_products-requires : goal.cmp_wide_products-requires
cmp_wide_products-requires c =
    subst (λ x. 0 < x)
    (ap₂ ◌*◌ (sym c.over-4.ensures.value) (sym c.size-4.ensures.value)
    ∙ sym c.product-right_over.ensures)
    (mul-pos c.args.q.now.reduced.0 (positive_parts c.args.b.now c.requires).0)
