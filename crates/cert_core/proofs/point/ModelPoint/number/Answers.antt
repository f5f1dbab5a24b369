use Rattle.std.proofs.Common.{◌∙◌, sym}
use Rattle.cert_core.proofs.Places.{distinct, spread_nowhere, spread_place}
use Rattle.cert_core.proofs.point.ModelPoint.number.Goals as goal

pub returns-in-Some : goal.returns-in-Some
returns-in-Some c =
    let us = c.args.self.now.variables.now in
    c.number_at.ensures
    ∙ sym (spread_place us c.args.self.now.numbers.now c.in-Some.place c.args.at.now
    (distinct us c.place.ensures.ascending) c.in-Some.ensures.at)

pub returns-in-None : goal.returns-in-None
returns-in-None c =
    c.zero.ensures
    ∙ sym (spread_nowhere c.args.self.now.variables.now c.args.self.now.numbers.now c.args.at.now
    c.in-None.ensures.at)
