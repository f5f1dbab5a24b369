use Rattle.std.proofs.Common.{◌∙◌, of_z, to_z, to_z-of_z, w64}
use mir.Syntax.{w128}
use Rattle.ratio_core.proofs.NarrowLaws.{whole_product}
use Rattle.ratio_core.proofs.Products.{IsProduct}
use Rattle.ratio_core.proofs.fraction.Ratio.mul_whole.Goals as goal
use Rattle.ratio_core.proofs.fraction.Ratio.mul_whole.Goals.{After-product_of_narrows}

made : (c : After-product_of_narrows) → IsProduct c.args.self.now c.args.other.now
    (to_z w128 (of_z w128 c.product_of_narrows.result)) 1
made c =
    whole_product c.args.self.now c.args.other.now c.requires.left c.requires.right
    (to_z-of_z {w = w64} (record { sfits = c.narrow_num.type_inv }) ∙ c.narrow_num.ensures)
    (to_z-of_z {w = w64} (record { sfits = c.narrow_num-2.type_inv }) ∙ c.narrow_num-2.ensures)
    (to_z-of_z {w = w128} (record { sfits = c.product_of_narrows.type_inv }))
    c.product_of_narrows.ensures c.requires.left_narrow c.requires.right_narrow

pub keep-requires : goal.keep-requires
keep-requires c = (made c).stored

pub returns-clause-fits : goal.returns-clause-fits
returns-clause-fits c = (made (goal.at.returns-clause-fits c).After-product_of_narrows).fits

pub returns-clause-value : goal.returns-clause-value
returns-clause-value c =
    c.keep.ensures ∙ (made (goal.at.returns-clause-value c).After-product_of_narrows).value
