use Rattle.std.proofs.Common.{◌≡◌, None}
use Rattle.ratio_core.specs.Rational.{zero_ℚ}
use Rattle.simplex_form.specs.Search.{least_below}
use Rattle.simplex_form.specs.Turns.{is_below}
use Rattle.tableau_core.specs.Row.{cell}
use Rattle.tableau_core.proofs.scan.first_negative.Given as goal

abbrev pub invariant-loop-j : goal.invariant-loop-j
invariant-loop-j l = least_below l.j (λ j. is_below (cell l.row j) zero_ℚ) ≡ None
