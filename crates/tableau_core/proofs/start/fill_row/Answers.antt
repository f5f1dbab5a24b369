use Rattle.std.proofs.Common.{arith, ◌∙◌, ◌+◌}
use Rattle.tableau_core.proofs.start.fill_row.Goals as goal

pub put_row-requires-clause-zeros : goal.put_row-requires-clause-zeros
put_row-requires-clause-zeros c = λ j b. c.requires.zeros j

pub put_number-requires-clause-within : goal.put_number-requires-clause-within
put_number-requires-clause-within c =
    omega (arith, c.put_row.ensures.put.long, c.requires.long, c.requires.within)

pub put_number-requires-2-clause-within : goal.put_number-requires-2-clause-within
put_number-requires-2-clause-within c =
    omega (arith, c.put_number.ensures.long, c.put_row.ensures.put.long, c.requires.long)

pub returns-clause-long : goal.returns-clause-long
returns-clause-long c =
    c.put_number-2.ensures.long ∙ c.put_number.ensures.long ∙ c.put_row.ensures.put.long
    ∙ c.requires.long

pub returns-clause-reals : goal.returns-clause-reals
returns-clause-reals c = λ j b.
    c.put_number-2.ensures.others j (λ e. omega (arith, b, e))
    ∙ c.put_number.ensures.others j (λ e. omega (arith, b, e)) ∙ c.put_row.ensures.put.changed j b

pub returns-clause-unit : goal.returns-clause-unit
returns-clause-unit c =
    c.put_number-2.ensures.others (c.args.c + c.args.i) (λ e. omega (arith, c.requires.within, e))
    ∙ c.put_number.ensures.here ∙ c.one.ensures

pub returns-clause-others : goal.returns-clause-others
returns-clause-others c = λ j b d n.
    c.put_number-2.ensures.others j (λ e. omega (arith, d, e)) ∙ c.put_number.ensures.others j n
    ∙ c.put_row.ensures.put.others j b ∙ c.requires.zeros j
