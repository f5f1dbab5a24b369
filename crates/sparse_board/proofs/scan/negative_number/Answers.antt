use Rattle.std.proofs.Common.{arith, sym, ◌∙◌}
use Rattle.ratio_core.specs.Rational.{zero_ℚ}
use Rattle.simplex_form.specs.Turns.{is_below}
use Rattle.tableau_core.specs.LeastLaws.{least_found}
use Rattle.whole_rows.specs.Rows as whole
use Rattle.sparse_board.proofs.scan.negative_number.Goals as goal

pub returns-then-has_negative-clause-value : goal.returns-then-has_negative-clause-value
returns-then-has_negative-clause-value c =
    sym (least_found c.args.count c.loop-j.j
    (λ j. is_below (whole.number_of c.args.row.now j) zero_ℚ) (omega arith)
    c.loop-j.invariant (sym c.has_negative.ensures ∙ c.if-has_negative.true))
