use Rattle.ratio_core.proofs.Literals.{fraction_is}
use Rattle.ratio_core.proofs.text.fraction_of.Goals as goal

pub returns : goal.returns
returns c =
    fraction_is c.args.is_negative c.args.size c.args.den c.in_ok-size.size c.in_ok-den.den
    c.lowest.result c.ok.result
    c.in_ok-size.was c.in_ok-den.was (c.requires.size_fits _ c.in_ok-size.was)
    (c.requires.den_fits _ c.in_ok-den.was) c.if-den-eq0.false
    c.lowest.ensures.exact c.ok.ensures.value
