use Rattle.std.proofs.Common.{◌≡◌, ◌≤◌, ◌∙◌, ℕ, ap₂, arith, sym}
use Rattle.ratio_core.specs.Rational.{reduce, ◌/ℚ◌}
use Rattle.whole_rows.specs.Rows.{number_of, width_of}
use Rattle.whole_rows.proofs.step.NarrowStep.set.Goals as goal
use Rattle.whole_rows.proofs.step.NarrowStep.set.Goals.{After-take_row-self}

-- the numbers that were taken
taken_lem : (c : After-take_row-self) (j : ℕ) → j ≤ width_of c.args.self.now.row
    → number_of c.take_row-self.new.self j ≡ number_of c.args.row.now j
taken_lem c j b =
    ap₂ reduce (c.take_row-self.ensures.numerators j (omega (arith, c.clear_listed.ensures.width, b)))
    c.take_row-self.ensures.den

pub divide-requires-clause-nonzero : goal.divide-requires-clause-nonzero
divide-requires-clause-nonzero c = λ z.
    c.requires.nonzero (sym (c.take_row-self.ensures.numerators c.args.q
    (omega (arith, c.clear_listed.ensures.width, c.requires.column))) ∙ z)

pub returns-clause-divided : goal.returns-clause-divided
returns-clause-divided c = λ j b.
    let a = (goal.at.returns-clause-divided c).After-take_row-self in
    c.divide.ensures.divided.numbers j
    (omega (arith, c.take_row-self.ensures.width, c.clear_listed.ensures.width, b))
    ∙ ap₂ ◌/ℚ◌ (taken_lem a j b) (taken_lem a c.args.q (omega (arith, c.requires.column)))
