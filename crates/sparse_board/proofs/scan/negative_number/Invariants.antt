use Rattle.std.proofs.Common.{◌≡◌, None}
use Rattle.ratio_core.specs.Rational.{zero_ℚ}
use Rattle.simplex_form.specs.Search.{least_below}
use Rattle.simplex_form.specs.Turns.{is_below}
use Rattle.whole_rows.specs.Rows as whole
use Rattle.sparse_board.proofs.scan.negative_number.Given as goal

abbrev pub invariant-loop-j : goal.invariant-loop-j
invariant-loop-j l = least_below l.j (λ j. is_below (whole.number_of l.row j) zero_ℚ) ≡ None
