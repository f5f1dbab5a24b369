use Rattle.std.proofs.Common.{◌∙◌, ◌*◌, arith, not, refl}
use Rattle.std.specs.Bool.{beq}
use Rattle.ratio_core.specs.Rational.{signed}
use Rattle.ratio_core.proofs.NarrowLaws.{quotient_below, small_product}
use Rattle.ratio_core.proofs.Products.{IsProduct, product_made}
use Rattle.ratio_core.proofs.fraction.Ratio.mul_narrow.Goals as goal
use Rattle.ratio_core.proofs.fraction.Ratio.mul_narrow.Goals.{After-is_negative-2}

made : (c : After-is_negative-2) → IsProduct c.args.self.now c.args.other.now
    (signed (not (beq c.is_negative.result c.is_negative-2.result))
    (c.narrow_quotient.result * c.narrow_quotient-2.result))
    (c.narrow_quotient-3.result * c.narrow_quotient-4.result)
made c =
    product_made
    c.args.self.now c.args.other.now c.narrow_size-left_size.ensures
    c.narrow_over-left_den.ensures.value c.narrow_size-right_size.ensures
    c.narrow_over-right_den.ensures.value c.narrow_divisor-left.ensures.value
    c.narrow_divisor-right.ensures.value c.narrow_quotient.ensures c.narrow_quotient-2.ensures
    c.narrow_quotient-3.ensures c.narrow_quotient-4.ensures c.is_negative.ensures
    c.is_negative-2.ensures refl refl
    (small_product _ _
    (quotient_below _ _ _ c.narrow_quotient.ensures (omega (
      arith,
      c.narrow_size-left_size.ensures,
      c.requires.left.num,
    )))
    (quotient_below _ _ _ c.narrow_quotient-2.ensures
    (omega (arith, c.narrow_size-right_size.ensures, c.requires.right.num))))
    (small_product _ _
    (quotient_below _ _ _ c.narrow_quotient-3.ensures
    (omega (arith, c.narrow_over-left_den.ensures.value, c.requires.left.den)))
    (quotient_below _ _ _ c.narrow_quotient-4.ensures
    (omega (arith, c.narrow_over-right_den.ensures.value, c.requires.right.den))))

pub store-requires : goal.store-requires
store-requires c = (made c).stored

pub returns-clause-fits : goal.returns-clause-fits
returns-clause-fits c = (made (goal.at.returns-clause-fits c).After-is_negative-2).fits

pub returns-clause-value : goal.returns-clause-value
returns-clause-value c =
    c.store.ensures ∙ (made (goal.at.returns-clause-value c).After-is_negative-2).value
