use Rattle.std.proofs.Common.{◌≡◌, ◌≤◌, None}
use Rattle.ratio_core.specs.Rational.{zero_ℚ}
use Rattle.simplex_form.specs.Search.{least_below}
use Rattle.simplex_form.specs.Turns.{is_below}
use Rattle.sparse_board.specs.Numbers.{number_of, row_columns}
use Rattle.sparse_board.proofs.LoweringSteps.{past}
use Rattle.sparse_board.proofs.scan.negative_entry.Given as goal

abbrev pub invariant-loop-k : goal.invariant-loop-k
invariant-loop-k l = record {
  none : least_below (past (row_columns l.row) l.k) (λ j. is_below (number_of l.row j) zero_ℚ)
      ≡ None;
  few : past (row_columns l.row) l.k ≤ l.count;
}
