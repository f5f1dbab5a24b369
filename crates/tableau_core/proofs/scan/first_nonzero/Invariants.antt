use Rattle.std.proofs.Common.{◌≡◌, None, not}
use Rattle.ratio_core.specs.Rational.{rational_eq, zero_ℚ}
use Rattle.simplex_form.specs.Search.{least_below}
use Rattle.tableau_core.specs.Row.{cell}
use Rattle.tableau_core.proofs.scan.first_nonzero.Given as goal

abbrev pub invariant-loop-j : goal.invariant-loop-j
invariant-loop-j l = least_below l.j (λ j. not (rational_eq (cell l.row j) zero_ℚ)) ≡ None
