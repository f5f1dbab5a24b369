use Rattle.std.proofs.Common.{◌*◌, ◌∙◌, of_z, to_z, to_z-of_z, w64}
use mir.Syntax.{w128}
use Rattle.ratio_core.proofs.NarrowLaws.{fits_along, narrow_sum}
use Rattle.ratio_core.proofs.Sums.{IsSum}
use Rattle.ratio_core.proofs.fraction.Ratio.add_narrow.Goals as goal
use Rattle.ratio_core.proofs.fraction.Ratio.add_narrow.Goals.{After-signed_quotient}

pub signed_quotient-requires-clause-fits : goal.signed_quotient-requires-clause-fits
signed_quotient-requires-clause-fits c =
    fits_along (to_z w128 (of_z w128 c.sum_of_products-sum.result)) c.sum_of_products-sum.result
    (to_z-of_z {w = w128} (record {
      sfits = c.sum_of_products-sum.type_inv;
    })) c.sum_of_products-sum.ensures.fits

made : (c : After-signed_quotient) → IsSum c.args.self.now c.args.other.now
    (to_z w128 (of_z w128 c.signed_quotient.result))
    (c.narrow_quotient-left_over.result * c.narrow_quotient.result)
made c =
    narrow_sum c.args.self.now c.args.other.now
    c.narrow_over-left_den.ensures.value c.narrow_over-right_den.ensures.value
    c.narrow_divisor-common.ensures.value c.narrow_quotient-left_over.ensures
    c.narrow_quotient-right_over.ensures
    (to_z-of_z {w = w64} (record { sfits = c.narrow_num.type_inv }) ∙ c.narrow_num.ensures)
    (to_z-of_z {w = w64} (record { sfits = c.narrow_num-2.type_inv }) ∙ c.narrow_num-2.ensures)
    c.sum_of_products-sum.ensures.value
    (to_z-of_z {w = w128} (record { sfits = c.sum_of_products-sum.type_inv }))
    c.unsigned_abs.ensures.value c.last_divisor-last.ensures.value c.narrow_quotient.ensures
    c.signed_quotient.ensures
    (to_z-of_z {w = w128} (record { sfits = c.signed_quotient.type_inv }))
    c.requires.left c.requires.right c.sum_of_products-sum.ensures.fits

pub keep-requires : goal.keep-requires
keep-requires c = (made c).stored

pub returns-clause-fits : goal.returns-clause-fits
returns-clause-fits c = (made (goal.at.returns-clause-fits c).After-signed_quotient).fits

pub returns-clause-value : goal.returns-clause-value
returns-clause-value c =
    c.keep.ensures ∙ (made (goal.at.returns-clause-value c).After-signed_quotient).value
