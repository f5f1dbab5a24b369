use Rattle.std.proofs.Common.{◌∙◌, of_z, to_z, to_z-of_z}
use mir.Syntax.{w128}
use Rattle.ratio_core.proofs.NarrowLaws.{short_along, whole_sum}
use Rattle.ratio_core.proofs.Sums.{IsSum}
use Rattle.ratio_core.proofs.fraction.Ratio.add_short.Goals as goal
use Rattle.ratio_core.proofs.fraction.Ratio.add_short.Goals.{After-sum_of_shorts}

pub sum_of_shorts-requires-clause-left : goal.sum_of_shorts-requires-clause-left
sum_of_shorts-requires-clause-left c =
    short_along (to_z w128 (of_z w128 c.num.result)) c.args.self.now.num
    (to_z-of_z {w = w128} (record { sfits = c.num.type_inv }) ∙ c.num.ensures.value)
    c.requires.left_short

pub sum_of_shorts-requires-clause-right : goal.sum_of_shorts-requires-clause-right
sum_of_shorts-requires-clause-right c =
    short_along (to_z w128 (of_z w128 c.num-2.result)) c.args.other.now.num
    (to_z-of_z {w = w128} (record { sfits = c.num-2.type_inv }) ∙ c.num-2.ensures.value)
    c.requires.right_short

made : (c : After-sum_of_shorts) → IsSum c.args.self.now c.args.other.now
    (to_z w128 (of_z w128 c.sum_of_shorts.result)) 1
made c =
    whole_sum c.args.self.now c.args.other.now c.requires.left c.requires.right
    (to_z-of_z {w = w128} (record { sfits = c.num.type_inv }) ∙ c.num.ensures.value)
    (to_z-of_z {w = w128} (record { sfits = c.num-2.type_inv }) ∙ c.num-2.ensures.value)
    (to_z-of_z {w = w128} (record { sfits = c.sum_of_shorts.type_inv }))
    c.sum_of_shorts.ensures.value c.num.ensures.fits c.num-2.ensures.fits
    c.sum_of_shorts.ensures.fits

pub keep-requires : goal.keep-requires
keep-requires c = (made c).stored

pub returns-clause-fits : goal.returns-clause-fits
returns-clause-fits c = (made (goal.at.returns-clause-fits c).After-sum_of_shorts).fits

pub returns-clause-value : goal.returns-clause-value
returns-clause-value c =
    c.keep.ensures ∙ (made (goal.at.returns-clause-value c).After-sum_of_shorts).value
