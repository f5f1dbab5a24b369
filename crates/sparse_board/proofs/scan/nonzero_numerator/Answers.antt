use Rattle.std.proofs.Common.{arith, not, sym, ◌∙◌}
use Rattle.ratio_core.specs.Rational.{rational_eq, zero_ℚ}
use Rattle.rational_laws.specs.Tests.{nonzero_from_test}
use Rattle.tableau_core.specs.LeastLaws.{least_found}
use Rattle.whole_rows.specs.Rows as whole
use Rattle.sparse_board.proofs.scan.nonzero_numerator.Goals as goal

pub returns-then-is_nonzero_at-clause-value : goal.returns-then-is_nonzero_at-clause-value
returns-then-is_nonzero_at-clause-value c =
    sym (least_found c.args.count c.loop-j.j
    (λ j. not (rational_eq (whole.number_of c.args.row.now j) zero_ℚ)) (omega arith)
    c.loop-j.invariant (sym c.is_nonzero_at.ensures ∙ c.if-is_nonzero_at.true))

pub returns-then-is_nonzero_at-clause-within : goal.returns-then-is_nonzero_at-clause-within
returns-then-is_nonzero_at-clause-within c = (
  omega arith,
  nonzero_from_test (whole.number_of c.args.row.now c.loop-j.j)
      (sym c.is_nonzero_at.ensures ∙ c.if-is_nonzero_at.true),
)
