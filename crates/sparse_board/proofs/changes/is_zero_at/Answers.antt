use Rattle.std.proofs.Common.{sym, ◌∙◌}
use Rattle.std.proofs.lemmas.Bool.{not-true}
use Rattle.rational_laws.specs.Tests.{zero_from_test}
use Rattle.whole_rows.specs.Rows as whole
use Rattle.sparse_board.proofs.MixedSteps.{number_narrow, number_wide}
use Rattle.sparse_board.proofs.changes.is_zero_at.Goals as goal

pub returns-then-row : goal.returns-then-row
returns-then-row c = λ t.
    number_wide c.args.row.now c.if-row.true c.args.q ∙ sym c.number.ensures
    ∙ c.is_zero.ensures.0 t

pub returns-else-row : goal.returns-else-row
returns-else-row c = λ t.
    let row = c.args.row.now in
    number_narrow row c.if-row.false c.args.q
    ∙ zero_from_test (whole.number_of row.narrow c.args.q)
    (sym c.is_nonzero_at.ensures ∙ not-true c.is_nonzero_at.result t)
