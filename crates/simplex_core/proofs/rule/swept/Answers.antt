use Rattle.std.proofs.Common.{length, arith, slice_index, slice_index_or, subst, sym, ◌∙◌, ◌≤◌}
use Rattle.simplex_form.specs.Turns.{swept_column, swept_in}
use Rattle.tableau_core.specs.BoardContents.{readings_of}
use Rattle.simplex_core.proofs.Choices.{row_found}
use Rattle.simplex_core.proofs.Comparisons.{artificial_row}
use Rattle.simplex_core.proofs.rule.swept.Goals as goal

pub returns-in-Some-clause-value : goal.returns-in-Some-clause-value
returns-in-Some-clause-value g c =
    let t = g.T.Tableau.contents c.args.board.now in
    let R = readings_of t in
    let artificial = subst (λ basis. c.real_count.result ≤ slice_index_or basis c.loop-i.i 0)
    c.basis.ensures.columns c.if-basis-i.true in
    sym (row_found (length t.rows) c.loop-i.i c.in-Some.j (swept_in R) (omega arith)
    c.loop-i.invariant
    (artificial_row c.real_count.result t.reals (slice_index t.basis c.loop-i.i)
    (swept_column R c.loop-i.i) (sym c.real_count.ensures) artificial
    ∙ sym c.in-Some.ensures.value))
