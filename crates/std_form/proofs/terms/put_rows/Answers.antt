use Rattle.std.proofs.Common.{arith, length, map, subst, sym, [], ◌≡◌, ◌≤◌, ◌∙◌}
use Rattle.std.proofs.lemmas.List.{length-map}
use Rattle.std_form.specs.Borrowed.{equation_in}
use Rattle.std_form.proofs.Gathering.{matrix_is}
use Rattle.std_form.proofs.terms.put_rows.Goals as goal

pub put_variables-requires-clause-low : goal.put_variables-requires-clause-low
put_variables-requires-clause-low c = λ b.
    subst (λ l. length l ≤ 0) (sym (c.requires.empty b)) (omega arith)

pub put_slacks-requires-clause-low : goal.put_slacks-requires-clause-low
put_slacks-requires-clause-low c = c.in_ok-parts.ensures.low

pub returns-clause-rows : goal.returns-clause-rows
returns-clause-rows c =
    matrix_is c.args.variables.now (map equation_in c.args.equations.now) c.args.columns.now
    c.args.rows.now c.put_variables.new.rows c.put_slacks.new.rows c.in_ok-parts.parts
    c.in_ok-width.width c.requires.columns c.requires.indices c.requires.empty
    (c.requires.count ∙ sym (length-map c.args.equations.now equation_in)) c.in_ok-parts.ensures
    c.in_ok-width.ensures.grown

pub returns-clause-low : goal.returns-clause-low
returns-clause-low c = c.in_ok-width.ensures.low
