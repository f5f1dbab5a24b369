use Rattle.std.proofs.Common.{◌∙◌}
use Rattle.ratio_core.specs.Rational.{◌*ℚ◌, ◌+ℚ◌}
use Rattle.cert_core.proofs.Adding.{term_added}
use Rattle.cert_core.proofs.Places.{none_at_place}
use Rattle.cert_core.proofs.adjoint.add_term.Goals as goal

pub returns-in-Some : goal.returns-in-Some
returns-in-Some c = λ x is.
    term_added c.add_at.result c.args.variables.now c.args.sums.now c.add_at.new.sums
    c.in-Some.place
    c.args.at.now c.args.by.now c.args.coefficient.now c.place.ensures.ascending
    c.in-Some.ensures.at
    c.add_at.ensures x is

pub returns-in-None : goal.returns-in-None
returns-in-None c = λ x is.
    let us = c.args.variables.now in
    let at = c.args.at.now in (
      λ s. absurd (c.in-None.ensures.at s),
      is ∙ none_at_place us x at (x at +ℚ c.args.by.now *ℚ c.args.coefficient.now)
          c.in-None.ensures.at,
    )
