use Rattle.ratio_core.proofs.Crossed.{quotients_above, quotients_below, quotients_greater, quotients_less}
use Rattle.ratio_core.proofs.fraction.Ratio.cmp_quotients.Goals as goal

pub returns-in-true-true : goal.returns-in-true-true
returns-in-true-true c =
    quotients_below c.args.self.now c.args.by.now c.args.other.now c.args.over.now c.requires.by
    c.requires.over _ c.in-true-true.ensures c.in-true-true.ensures'
    c.cmp_quotient_sizes.ensures

pub returns-in-true-false : goal.returns-in-true-false
returns-in-true-false c =
    quotients_less c.args.self.now c.args.by.now c.args.other.now c.args.over.now c.requires.by
    c.requires.over c.in-true-false.ensures c.in-true-false.ensures'

pub returns-in-false-true : goal.returns-in-false-true
returns-in-false-true c =
    quotients_greater c.args.self.now c.args.by.now c.args.other.now c.args.over.now c.requires.by
    c.requires.over c.in-false-true.ensures c.in-false-true.ensures'

pub returns-in-false-false : goal.returns-in-false-false
returns-in-false-false c =
    quotients_above c.args.self.now c.args.by.now c.args.other.now c.args.over.now c.requires.by
    c.requires.over _ c.in-false-false.ensures c.in-false-false.ensures'
    c.cmp_quotient_sizes-in-false-false.ensures
